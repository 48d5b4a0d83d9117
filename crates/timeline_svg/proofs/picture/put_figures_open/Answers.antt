use Rattle.timeline_svg.specs.Picture.{figures_open}
use Rattle.timeline_svg.proofs.picture.put_figures_open.Goals as goal

pub returns : goal.returns
unfolding figures_open
returns c = rw (c.lane_y-y.ensures.value) at c.put.ensures
