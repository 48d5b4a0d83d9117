use Rattle.report_rows.proofs.Replayed.{move_row-is}
use Rattle.report_rows.proofs.replay_rows.write_move.Goals as goal

pub returns-in-Some : goal.returns-in-Some
returns-in-Some c =
    let fields = rw c.in-Some.is at c.partition_among-number.ensures.found in
    rw (move_row-is c.args.topics.now c.args.cluster.now.group c.args.made.now _ fields) (rw (c.as_bytes-generation.ensures.value, c.format.ensures.text, c.as_bytes-partition.ensures.value, c.format-2.ensures.text, c.name_or_empty-last.ensures, c.name_or_empty-holder.ensures) at c.write_row.ensures)

pub returns-in-None : goal.returns-in-None
returns-in-None c =
    let fields = rw c.in-None.is at c.partition_among-number.ensures.none in
    rw (move_row-is c.args.topics.now c.args.cluster.now.group c.args.made.now _ fields) (rw (c.as_bytes-generation.ensures.value, c.format.ensures.text, c.as_bytes-partition.ensures.value, c.format-2.ensures.text, c.name_or_empty-last.ensures, c.name_or_empty-holder.ensures) at c.write_row-in-None.ensures)
