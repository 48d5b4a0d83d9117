use Rattle.std.proofs.Common.{◌≡◌}
use Rattle.cluster_tests.proofs.reference_partial.Entries.{CanTake, with_entries}
use Rattle.cluster_tests.proofs.reference_partial.raise.Given as goal

abbrev pub invariant-loop-id : goal.invariant-loop-id
invariant-loop-id l = record {
  next : (goal.iterator-loop-id).can_next l.id-iterator;
  finite : (goal.iterator-loop-id).is_finite l.id-iterator;
  can : CanTake l.counts l.id-iterator;
  all : with_entries l.counts l.id-iterator ≡ with_entries l.initial.counts l.initial.id-iterator;
}
