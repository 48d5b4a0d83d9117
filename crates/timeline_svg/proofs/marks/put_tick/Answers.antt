use Rattle.timeline_svg.specs.Marks.{tick_shape}
use Rattle.timeline_svg.proofs.marks.put_tick.Goals as goal

pub returns : goal.returns
unfolding tick_shape
returns c = rw (c.column_x.ensures.value, c.lane_y.ensures.value) at c.put.ensures
