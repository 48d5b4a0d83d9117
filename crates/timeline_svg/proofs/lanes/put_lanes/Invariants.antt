use Rattle.std.proofs.Common.{◌≡◌, ◌++◌}
use Rattle.timeline_svg.specs.Lanes.{lane_at}
use Rattle.timeline_svg.specs.Markup.{texts_below}
use Rattle.timeline_svg.proofs.lanes.put_lanes.Given as goal

abbrev pub invariant-loop-lane : goal.invariant-loop-lane
invariant-loop-lane l = l.out.items ≡ l.initial.out.items ++ texts_below l.lane (lane_at l.topics l.timeline l.starts)
