use Rattle.std.proofs.Common.{◌≡◌}
use Rattle.timeline_svg.specs.Places.{starts_below}
use Rattle.timeline_svg.proofs.places.lane_starts.Given as goal

abbrev pub invariant-loop-p : goal.invariant-loop-p
invariant-loop-p l = l.starts.items ≡ starts_below l.topics l.timeline.lanes l.p
