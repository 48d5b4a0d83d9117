use Rattle.std.proofs.Common.{◌<◌, ◌+◌, ◌^◌, ℕ, get_or}
use Rattle.cluster_tests.proofs.tables.can_grow.Given as goal

abbrev pub invariant-loop-count : goal.invariant-loop-count
invariant-loop-count l = (i : ℕ) → i < l.count-index → get_or l.counts i 0 + l.more < 2 ^ 64
