use Rattle.timeline_svg.specs.Marks.{poll_shape}
use Rattle.timeline_svg.proofs.marks.put_poll_shape.Goals as goal

pub returns : goal.returns
unfolding poll_shape
returns c = rw (c.colour_of.ensures, c.column_x.ensures.value, c.lane_y.ensures.value, c.middle_x.ensures.value, c.lane_y-2.ensures.value) at c.put.ensures
