use Rattle.std.proofs.Common.{◌≡◌, length}
use Rattle.timeline_svg.specs.Figures.{first_read}
use Rattle.timeline_svg.proofs.figures.first_read.Given as goal

abbrev pub invariant-loop-rest : goal.invariant-loop-rest
invariant-loop-rest l = first_read l.rest l.columns ≡ first_read l.spans l.columns

abbrev pub decreases-loop-rest : goal.decreases-loop-rest
decreases-loop-rest l = length l.rest
