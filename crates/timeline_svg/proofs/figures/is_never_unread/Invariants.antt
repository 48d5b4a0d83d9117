use Rattle.std.proofs.Common.{◌≡◌, length}
use Rattle.timeline_svg.specs.Figures.{is_never_unread}
use Rattle.timeline_svg.proofs.figures.is_never_unread.Given as goal

abbrev pub invariant-loop-rest : goal.invariant-loop-rest
invariant-loop-rest l = is_never_unread l.rest ≡ is_never_unread l.spans

abbrev pub decreases-loop-rest : goal.decreases-loop-rest
decreases-loop-rest l = length l.rest
