use Rattle.std.proofs.Common.{◌≡◌, [], map}
use Rattle.std.specs.Prelude.{replicate, vec_items}
use Rattle.timeline_recorder.proofs.recorder.empty_lanes.Given as goal

abbrev pub invariant-loop-lane : goal.invariant-loop-lane
invariant-loop-lane l = map vec_items l.lanes.items ≡ replicate l._lane []
