use Rattle.std.proofs.Common.{◌≡◌, length}
use Rattle.timeline_svg.specs.Places.{place_of}
use Rattle.timeline_svg.proofs.places.place_of.Given as goal

abbrev pub invariant-loop-rest : goal.invariant-loop-rest
invariant-loop-rest l = place_of l.rest l.number ≡ place_of l.topics l.partition

abbrev pub decreases-loop-rest : goal.decreases-loop-rest
decreases-loop-rest l = length l.rest
