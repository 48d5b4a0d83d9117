use Rattle.std.proofs.Common.{◌≡◌, [], get_or, map, take, vec_items}
use Rattle.partition_log.specs.Private.Shares.{flattened}
use Rattle.partition_log.proofs.shares.merged_log.Given as goal

abbrev pub invariant-loop-i : goal.invariant-loop-i
invariant-loop-i l = l.log.items ≡ flattened (map (λ part. get_or (map vec_items part.items) l.p []) (take l.i l.parts))
