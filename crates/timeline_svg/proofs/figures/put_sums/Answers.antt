use Rattle.timeline_svg.specs.Figures.{sums_text}
use Rattle.timeline_svg.proofs.figures.put_sums.Goals as goal

pub returns : goal.returns
unfolding sums_text
returns c = rw (c.row_y-y.ensures.value) at c.put.ensures
