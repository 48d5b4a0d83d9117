use Rattle.std.proofs.Common.{◌≡◌, ◌++◌}
use Rattle.timeline_svg.specs.Figures.{unread_at}
use Rattle.timeline_svg.specs.Markup.{texts_below}
use Rattle.timeline_svg.proofs.figures.put_unread_times.Given as goal

abbrev pub invariant-loop-i : goal.invariant-loop-i
invariant-loop-i l = l.out.items ≡ l.initial.out.items ++ texts_below l.i (unread_at l.columns l.spans)
