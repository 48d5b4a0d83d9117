use Rattle.timeline_svg.specs.Marks.{cross_shape}
use Rattle.timeline_svg.proofs.marks.put_cross.Goals as goal

pub returns : goal.returns
unfolding cross_shape
returns c = rw (c.column_x.ensures.value, c.lane_y.ensures.value, c.middle_x.ensures.value, c.lane_y-2.ensures.value) at c.put.ensures
