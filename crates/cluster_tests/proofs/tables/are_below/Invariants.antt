use Rattle.std.proofs.Common.{◌<◌, ℕ, get_or}
use Rattle.cluster_tests.proofs.tables.are_below.Given as goal

abbrev pub invariant-loop-id : goal.invariant-loop-id
invariant-loop-id l = (i : ℕ) → i < l.id-index → get_or l.ids i 0 < l.bound
