use Rattle.timeline_svg.specs.Picture.{key_open}
use Rattle.timeline_svg.proofs.picture.put_key_open.Goals as goal

pub returns : goal.returns
unfolding key_open
returns c = rw (c.row_y.ensures.value) at c.put.ensures
