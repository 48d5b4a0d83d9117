use Rattle.report_rows.proofs.Replayed.{owner_row-is}
use Rattle.report_rows.proofs.replay_rows.write_owner.Goals as goal

pub returns-in-Some : goal.returns-in-Some
returns-in-Some c =
    let fields = rw c.in-Some.is at c.partition_among-number.ensures.found in
    rw (owner_row-is c.args.topics.now c.args.cluster.now.group c.args.p _ fields) (rw (c.as_bytes-partition.ensures.value, c.format.ensures.text, c.name_or_empty-owner.ensures, c.owner.ensures) at c.write_row.ensures)

pub returns-in-None : goal.returns-in-None
returns-in-None c =
    let fields = rw c.in-None.is at c.partition_among-number.ensures.none in
    rw (owner_row-is c.args.topics.now c.args.cluster.now.group c.args.p _ fields) (rw (c.as_bytes-partition.ensures.value, c.format.ensures.text, c.name_or_empty-owner.ensures, c.owner.ensures) at c.write_row-in-None.ensures)
