use Rattle.timeline_svg.specs.Figures.{unread_head}
use Rattle.timeline_svg.proofs.figures.put_unread_head.Goals as goal

pub returns : goal.returns
unfolding unread_head
returns c = rw (c.row_y.ensures.value, c.space_after.ensures) at c.put.ensures
