use Rattle.timeline_svg.specs.Marks.{arc_shape}
use Rattle.timeline_svg.proofs.marks.put_arc.Goals as goal

pub returns : goal.returns
unfolding arc_shape
returns c = rw (c.column_x-length.ensures.value, c.saturating_sub.ensures, c.end_class.ensures, c.end_words-words.ensures, c.middle_x.ensures.value, c.lane_y.ensures.value) at c.put.ensures
