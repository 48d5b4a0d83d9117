use Rattle.std.proofs.Common.{◌≡◌, vec_len}
use Rattle.partition_log.proofs.shares.counts_in.Given as goal

abbrev pub invariant-loop-i : goal.invariant-loop-i
invariant-loop-i l = vec_len l.counts ≡ l.partitions
