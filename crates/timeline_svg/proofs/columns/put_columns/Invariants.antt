use Rattle.std.proofs.Common.{◌≡◌, ◌++◌}
use Rattle.timeline_svg.specs.Columns.{column_at}
use Rattle.timeline_svg.specs.Markup.{texts_below}
use Rattle.timeline_svg.proofs.columns.put_columns.Given as goal

abbrev pub invariant-loop-i : goal.invariant-loop-i
invariant-loop-i l = l.out.items ≡ l.initial.out.items ++ texts_below l.i (column_at l.topics l.timeline l.starts)
