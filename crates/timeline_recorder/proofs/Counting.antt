-- One more of what is defined by counting up.
use Rattle.std.proofs.Common.{◌≡◌, ◌+◌, ◌-◌, ◌++◌, ◌∷◌, [], ℕ, List, suc, ap, add-one, Bool}
use Rattle.std.specs.Prelude.{◌||◌, not}
use Rattle.lane_words.specs.Sums.{sum_below}
use Rattle.timeline.specs.Timelines.{course_of}
use Rattle.timeline.specs.declared.parts.Span.{Span}
use Rattle.timeline_recorder.specs.Courses.{holder_in, is_changed_below, is_still}
use Rattle.timeline_recorder.specs.Reads.{lengthened, read_at, read_on}
use Rattle.world.specs.World.{WorldState}

pub lengthened_more : (n : ℕ) (times : List ℕ) → lengthened (n + 1) times ≡ lengthened n times ++ 0 ∷ []
lengthened_more n times = ap (λ k. lengthened k times) (add-one n)

pub read_on_more : (n from : ℕ) (times : List ℕ)
    → read_on (n + 1) from times ≡ read_at (read_on n from times) (from + n)
read_on_more n from times = ap (λ k. read_on k from times) (add-one n)

pub changed_more : (p : ℕ) (w : WorldState) (lanes : List (List Span))
    → is_changed_below (p + 1) w lanes ≡ (is_changed_below p w lanes || not (is_still (course_of lanes p) (holder_in w p)))
changed_more p w lanes = ap (λ k. is_changed_below k w lanes) (add-one p)

pub sum_more : (n : ℕ) (f : ℕ → ℕ) → sum_below (n + 1) f ≡ sum_below n f + f n
sum_more n f = ap (λ k. sum_below k f) (add-one n)
