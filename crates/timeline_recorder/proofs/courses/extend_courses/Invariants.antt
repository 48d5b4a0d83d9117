use Rattle.std.proofs.Common.{◌≡◌, ◌<◌, ◌≤◌, ℕ, [], get_or, length, map}
use Rattle.std.specs.Prelude.{vec_items}
use Rattle.timeline_recorder.specs.Courses.{extended, holder_in}
use Rattle.timeline_recorder.proofs.courses.extend_courses.Given as goal

abbrev pub invariant-loop-p : goal.invariant-loop-p
invariant-loop-p l = record {
  done : (k : ℕ) → k < l.p → get_or (map vec_items l.lanes) k [] ≡ extended l.column (holder_in l.world k) (get_or (map vec_items l.initial.lanes) k []);
  same : (k : ℕ) → l.p ≤ k → get_or (map vec_items l.lanes) k [] ≡ get_or (map vec_items l.initial.lanes) k [];
}
