use Rattle.key_counts.proofs.Marks.{marked-more}
use Rattle.key_counts.proofs.filter.mark_cell.Goals as goal

pub returns-then-at-bytes : goal.returns-then-at-bytes
returns-then-at-bytes c = λ cells marked.
    marked-more cells c.args.bytes.now c.args.cell c.with_mark.result c.if-at-bytes.true c.with_mark.ensures.own c.with_mark.ensures.others marked
