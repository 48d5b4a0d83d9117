use Rattle.std.proofs.Common.{◌≡◌, map}
use Rattle.std.specs.Prelude.{vec_items}
use Rattle.timeline_recorder.specs.Courses.{is_changed_below}
use Rattle.timeline_recorder.proofs.courses.is_changed.Given as goal

abbrev pub invariant-loop-p : goal.invariant-loop-p
invariant-loop-p l = l.changed ≡ is_changed_below l.p l.world (map vec_items l.lanes)
