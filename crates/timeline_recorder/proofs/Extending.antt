-- Courses that go on, partition by partition.
use Rattle.std.proofs.Common.{◌≡◌, ◌∙◌, ◌+◌, ◌<◌, ◌≤◌, ℕ, List, [], get_or, length, ap, arith, refl}
use Rattle.std.proofs.Math.ListN.{set}
use Rattle.std.proofs.lemmas.List.{get_or-set_other}
use Rattle.std.proofs.lemmas.Grind.{get_or-set_at}
use borrow.Author.Count.{below_more}
use Rattle.timeline.specs.declared.parts.Span.{Span}

pub done_more : (xs0 xs : List (List Span)) (f : ℕ → List Span → List Span) (p : ℕ) (v : List Span) → p < length xs → v ≡ f p (get_or xs p [])
    → ((k : ℕ) → k < p → get_or xs k [] ≡ f k (get_or xs0 k [])) → ((k : ℕ) → p ≤ k → get_or xs k [] ≡ get_or xs0 k [])
    → (k : ℕ) → k < p + 1 → get_or (set xs p v) k [] ≡ f k (get_or xs0 k [])
done_more xs0 xs f p v lt is done same =
    let P : ℕ → Type 0 = λ k. get_or (set xs p v) k [] ≡ f k (get_or xs0 k []) in
    below_more P p
    (λ k below. get_or-set_other xs p k v [] (λ e. omega (arith, e, below)) ∙ done k below)
    (get_or-set_at xs p p v [] refl lt ∙ is ∙ ap (f p) (same p (omega arith)))

pub same_more : (xs0 xs : List (List Span)) (p : ℕ) (v : List Span) → ((k : ℕ) → p ≤ k → get_or xs k [] ≡ get_or xs0 k [])
    → (k : ℕ) → p + 1 ≤ k → get_or (set xs p v) k [] ≡ get_or xs0 k []
same_more xs0 xs p v same k le = get_or-set_other xs p k v [] (λ e. omega (arith, e, le)) ∙ same k (omega arith)
