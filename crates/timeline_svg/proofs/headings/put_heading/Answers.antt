use Rattle.timeline_svg.specs.Headings.{heading_shape}
use Rattle.timeline_svg.proofs.headings.put_heading.Goals as goal

pub returns : goal.returns
unfolding heading_shape
returns c = rw (c.column_x.ensures.value, c.lane_y.ensures.value, c.column_x-2.ensures.value, c.heading_front.ensures) at c.put.ensures
