use Rattle.report_rows.proofs.Replayed.{offset_row-is}
use Rattle.report_rows.proofs.replay_rows.write_offset.Goals as goal

pub returns-in-Some : goal.returns-in-Some
returns-in-Some c =
    let fields = rw c.in-Some.is at c.partition_among-number.ensures.found in
    rw (offset_row-is c.args.topics.now c.args.p c.args.committed c.args.end _ fields) (rw (c.as_bytes-partition.ensures.value, c.format.ensures.text, c.as_bytes-committed.ensures.value, c.format-2.ensures.text, c.as_bytes-end.ensures.value, c.format-3.ensures.text) at c.write_row.ensures)

pub returns-in-None : goal.returns-in-None
returns-in-None c =
    let fields = rw c.in-None.is at c.partition_among-number.ensures.none in
    rw (offset_row-is c.args.topics.now c.args.p c.args.committed c.args.end _ fields) (rw (c.as_bytes-partition.ensures.value, c.format.ensures.text, c.as_bytes-committed.ensures.value, c.format-2.ensures.text, c.as_bytes-end.ensures.value, c.format-3.ensures.text) at c.write_row-in-None.ensures)
