use Rattle.std.proofs.Common.{◌≡◌, length}
use Rattle.std.specs.Prelude.{max}
use Rattle.timeline_svg.specs.Picture.{longest_name}
use Rattle.timeline_svg.proofs.picture.longest_name.Given as goal

abbrev pub invariant-loop-rest : goal.invariant-loop-rest
invariant-loop-rest l = max l.letters (longest_name l.rest) ≡ longest_name l.topics

abbrev pub decreases-loop-rest : goal.decreases-loop-rest
decreases-loop-rest l = length l.rest
