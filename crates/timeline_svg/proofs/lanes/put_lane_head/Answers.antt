use Rattle.timeline_svg.specs.Lanes.{lane_head}
use Rattle.timeline_svg.proofs.lanes.put_lane_head.Goals as goal

pub returns : goal.returns
unfolding lane_head
returns c = rw (c.lane_y.ensures.value, c.space_after.ensures) at c.put.ensures
