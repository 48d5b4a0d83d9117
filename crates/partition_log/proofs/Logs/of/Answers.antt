use Rattle.std.proofs.Common.{map, vec_items}
use Rattle.partition_log.proofs.Valid.{opened}
use Rattle.partition_log.proofs.Logs.of.Goals as goal

pub invariant_of-result : goal.invariant_of-result
invariant_of-result g c =
    (opened c.args.partitions c.count.result c.in_ok-keys.keys (map vec_items c.in_ok-logs.logs.items) c.count.ensures.valid c.count.ensures.count c.in_ok-keys.ensures c.in_ok-logs.ensures).0

pub returns-clause-empty : goal.returns-clause-empty
returns-clause-empty g c =
    (opened c.args.partitions c.count.result c.in_ok-keys.keys (map vec_items c.in_ok-logs.logs.items) c.count.ensures.valid c.count.ensures.count c.in_ok-keys.ensures c.in_ok-logs.ensures).1

pub returns-clause-valid : goal.returns-clause-valid
returns-clause-valid g c =
    (opened c.args.partitions c.count.result c.in_ok-keys.keys (map vec_items c.in_ok-logs.logs.items) c.count.ensures.valid c.count.ensures.count c.in_ok-keys.ensures c.in_ok-logs.ensures).0
