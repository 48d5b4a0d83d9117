use Rattle.std.proofs.Common.{◌≡◌, ◌++◌}
use Rattle.timeline_svg.specs.Figures.{unread_figure_at}
use Rattle.timeline_svg.specs.Markup.{texts_below}
use Rattle.timeline_svg.proofs.figures.put_unread_figures.Given as goal

abbrev pub invariant-loop-row : goal.invariant-loop-row
invariant-loop-row l = l.out.items ≡ l.initial.out.items ++ texts_below l.row (unread_figure_at l.topics l.timeline l.starts)
