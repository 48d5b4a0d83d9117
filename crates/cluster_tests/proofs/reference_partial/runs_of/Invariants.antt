use Rattle.cluster_tests.proofs.reference_partial.Listed.{AreListed}
use Rattle.cluster_tests.proofs.reference_partial.runs_of.Given as goal

abbrev pub invariant-loop-at : goal.invariant-loop-at
invariant-loop-at l = AreListed l.runs.items l.ids l.start l.at
