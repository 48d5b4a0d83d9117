use Rattle.std.proofs.Common.{◌≡◌, vec_len}
use Rattle.partition_log.proofs.shares.count_chunk.Given as goal

abbrev pub invariant-loop-k : goal.invariant-loop-k
invariant-loop-k l = vec_len l.counts ≡ vec_len l.initial.counts
