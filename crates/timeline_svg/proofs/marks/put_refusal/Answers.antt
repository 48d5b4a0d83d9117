use Rattle.timeline_svg.specs.Marks.{refusal_shape}
use Rattle.timeline_svg.proofs.marks.put_refusal.Goals as goal

pub returns : goal.returns
unfolding refusal_shape
returns c = rw (c.column_x.ensures.value, c.column_x-2.ensures.value) at c.put.ensures
