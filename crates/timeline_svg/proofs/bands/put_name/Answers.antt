use Rattle.timeline_svg.specs.Bands.{name_shape}
use Rattle.timeline_svg.proofs.bands.put_name.Goals as goal

pub returns : goal.returns
unfolding name_shape
returns c = rw (c.column_x.ensures.value, c.lane_y.ensures.value, c.front_of.ensures, c.saturating_sub.ensures, c.colour_of.ensures, c.cover_of.ensures, c.member_of.ensures) at c.put.ensures
