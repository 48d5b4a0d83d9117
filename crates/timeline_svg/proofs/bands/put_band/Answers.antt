use Rattle.timeline_svg.specs.Bands.{band_shape}
use Rattle.timeline_svg.proofs.bands.put_band.Goals as goal

pub returns : goal.returns
unfolding band_shape
returns c = rw (c.column_x.ensures.value, c.lane_y.ensures.value, c.column_x-2.ensures.value, c.saturating_sub.ensures, c.colour_of.ensures, c.cover_of.ensures, c.state_words.ensures, c.name_of-name.ensures, c.member_of-member.ensures) at c.put.ensures
