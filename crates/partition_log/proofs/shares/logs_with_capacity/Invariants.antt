use Rattle.std.proofs.Common.{◌≡◌, [], map, vec_items, replicate}
use Rattle.partition_log.proofs.shares.logs_with_capacity.Given as goal

abbrev pub invariant-loop-p : goal.invariant-loop-p
invariant-loop-p l = map vec_items l.logs.items ≡ replicate l.p []
