use Rattle.timeline_svg.specs.Marks.{send_shape}
use Rattle.timeline_svg.proofs.marks.put_send_shape.Goals as goal

pub returns : goal.returns
unfolding send_shape
returns c = rw (c.middle_x.ensures.value, c.lane_y.ensures.value) at c.put.ensures
