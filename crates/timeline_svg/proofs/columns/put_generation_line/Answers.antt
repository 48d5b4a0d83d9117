use Rattle.timeline_svg.specs.Columns.{generation_line}
use Rattle.timeline_svg.proofs.columns.put_generation_line.Goals as goal

pub returns : goal.returns
unfolding generation_line
returns c = rw (c.column_x.ensures.value, c.lane_y.ensures.value, c.column_x-2.ensures.value, c.lane_y-2.ensures.value) at c.put.ensures
