use Rattle.place_report.proofs.Headers.{misplaced_row-is}
use Rattle.place_report.proofs.given.write_misplaced.Goals as goal

pub returns-in-Some : goal.returns-in-Some
returns-in-Some c =
    let fields = rw c.in-Some.is at c.partition_among-number.ensures.found in
    rw (misplaced_row-is c.args.topics.now c.args.nth c.args.key.now c.args.text.now c.args.p _ fields) (rw (c.as_bytes-nth.ensures.value, c.format.ensures.text, c.as_bytes-place.ensures.value, c.format-2.ensures.text) at c.write_row.ensures)

pub returns-in-None : goal.returns-in-None
returns-in-None c =
    let fields = rw c.in-None.is at c.partition_among-number.ensures.none in
    rw (misplaced_row-is c.args.topics.now c.args.nth c.args.key.now c.args.text.now c.args.p _ fields) (rw (c.as_bytes-nth.ensures.value, c.format.ensures.text, c.as_bytes-place.ensures.value, c.format-2.ensures.text) at c.write_row-in-None.ensures)
