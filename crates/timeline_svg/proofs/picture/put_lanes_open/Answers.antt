use Rattle.timeline_svg.specs.Picture.{lanes_open}
use Rattle.timeline_svg.proofs.picture.put_lanes_open.Goals as goal

pub returns : goal.returns
unfolding lanes_open
returns c = rw (c.margin.ensures.value) at c.put.ensures
