use Rattle.std.proofs.Common.{[]}
use Rattle.report_rows.proofs.committed_rows.text_of_slice.Goals as goal

pub returns : goal.returns
returns c =
    let text = c.text_of.ensures _ (c.in_ok-write_between.ensures [] c.new_writer-writer.ensures) in
    rw (c.slice_start-from.ensures, c.slice_start-to.ensures, c.count-count.ensures) at text
