use Rattle.timeline_svg.specs.Marks.{send_class}
use Rattle.timeline_svg.proofs.marks.put_send_class.Goals as goal

pub returns : goal.returns
unfolding send_class
returns c = rw (c.colour_of.ensures) at c.put.ensures
