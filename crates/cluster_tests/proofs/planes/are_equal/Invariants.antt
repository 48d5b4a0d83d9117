use Rattle.cluster_tests.proofs.planes.are_equal.Given as goal

abbrev pub invariant-loop-q : goal.invariant-loop-q
invariant-loop-q l = (goal.iterator-loop-q).can_next l.elements × (goal.iterator-loop-q).is_finite l.elements
