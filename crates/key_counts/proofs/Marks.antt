-- Marked cells.
use Rattle.std.proofs.Common.{◌≡◌, ◌≢◌, ◌∙◌, ◌+◌, ◌<◌, ◌≤◌, ℕ, List, [], ◌∷◌, ◌++◌, length, min, cond, get_or, sym, ap, subst, arith, inl, inr, get_or-set_same, get_or-set_other, refl}
use Rattle.std.specs.Prelude.{◌/◌, ◌%◌, ◌==◌, count_by, slice_set}
use Rattle.std.proofs.lemmas.Bool.{cases_eq, eq-eqb, ne_eqb}
use Rattle.std.proofs.lemmas.List.{length-set}
use Rattle.std.proofs.lemmas.List.Sums.{sum_by_push}
use Rattle.key_counts.specs.Private.Filter.{AreMarked, mark_in}

-- one more entry has the cell
pub marked-more : (cells bytes : List ℕ) (at new : ℕ) → at / 4 < length bytes
    → (mark_in (get_or bytes (at / 4) 0) at ≤ 2 → mark_in new at ≡ min 2 (mark_in (get_or bytes (at / 4) 0) at + 1))
    → ((other : ℕ) → other % 4 ≢ at % 4 → mark_in new other ≡ mark_in (get_or bytes (at / 4) 0) other)
    → AreMarked cells bytes → AreMarked (cells ++ at ∷ []) (slice_set bytes (at / 4) new)
marked-more cells bytes at new below own others marked = λ cell lt.
    let after = slice_set bytes (at / 4) new in
    let in_bytes : cell / 4 < length bytes = omega (arith, lt, length-set bytes (at / 4) new) in
    let pushed : count_by (λ c. c == cell) (cells ++ at ∷ []) ≡ count_by (λ c. c == cell) cells + cond (at == cell) 1 0 = sum_by_push (λ c. cond (c == cell) 1 0) cells at in
    elim (cases_eq at cell) [
      | inl e ↦
          let one : ◌≡◌ {A = ℕ} (cond (at == cell) 1 0) 1 = rw (eq-eqb at cell e) refl in
          let more : count_by (λ c. c == cell) (cells ++ at ∷ []) ≡ count_by (λ c. c == cell) cells + 1 = omega (arith, pushed, one) in
          let was : mark_in (get_or bytes (at / 4) 0) at ≡ min 2 (count_by (λ c. c == cell) cells) = subst (λ i. mark_in (get_or bytes (i / 4) 0) i ≡ min 2 (count_by (λ c. c == cell) cells)) (sym e) (marked cell in_bytes) in
          let here : mark_in (get_or after (at / 4) 0) at ≡ min 2 (count_by (λ c. c == cell) (cells ++ at ∷ [])) =
          ap (λ b. mark_in b at) (get_or-set_same bytes (at / 4) new 0 below) ∙ own (at-most-two _ _ was) ∙ one-more _ _ _ was more in
          subst (λ i. mark_in (get_or after (i / 4) 0) i ≡ min 2 (count_by (λ c. c == cell) (cells ++ at ∷ []))) e here
      | inr ne ↦
          let none : ◌≡◌ {A = ℕ} (cond (at == cell) 1 0) 0 = rw (ne_eqb at cell ne) refl in
          let same : count_by (λ c. c == cell) cells ≡ count_by (λ c. c == cell) (cells ++ at ∷ []) = omega (arith, pushed, none) in
          let kept : mark_in (get_or after (cell / 4) 0) cell ≡ mark_in (get_or bytes (cell / 4) 0) cell =
          elim (cases_eq (at / 4) (cell / 4)) [
            | inl together ↦
                let set : get_or after (cell / 4) 0 ≡ new = subst (λ i. get_or after i 0 ≡ new) together (get_or-set_same bytes (at / 4) new 0 below) in
                let apart : cell % 4 ≢ at % 4 = λ e. ne (omega (arith, e, together)) in
                ap (λ b. mark_in b cell) set ∙ others cell apart ∙ ap (λ i. mark_in (get_or bytes i 0) cell) together
            | inr away ↦ ap (λ b. mark_in b cell) (get_or-set_other bytes (at / 4) (cell / 4) new 0 (λ e. away (sym e)))
          ] in
          kept ∙ marked cell in_bytes ∙ ap (min 2) same
    ]
  where
    at-most-two : (mark count : ℕ) → mark ≡ min 2 count → mark ≤ 2
    at-most-two mark count is = omega (arith, is)

    one-more : (mark count more : ℕ) → mark ≡ min 2 count → more ≡ count + 1 → min 2 (mark + 1) ≡ min 2 more
    one-more mark count more is plus = omega (arith, is, plus)
