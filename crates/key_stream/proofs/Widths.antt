-- How long the first record is, chunk by chunk.
use Rattle.std.proofs.Common.{◌≡◌, ◌∙◌, ◌+◌, ◌<◌, ◌≤◌, ℕ, List, [], ◌∷◌, ◌++◌, Option, None, Bor, length, take, get_or, sym, ap, refl, arith, inl, inr, length-append}
use Rattle.std.proofs.Math.Seq.{get_or-append_seam}
use Rattle.std.proofs.lemmas.Bool.{cases_eq}
use Rattle.std.proofs.lemmas.List.{get_or-map, get_or_append_left, length-map}
use Rattle.csv_ingest.specs.Pieces.{file_records}
use Rattle.csv_ingest.specs.Private.Pieces.{lent}
use Rattle.csv_ingest.specs.Rounds.{width_after, width_after_all}
use Rattle.csv_ingest.proofs.Rounds.{width-next}

pub record AreWidths (delimiter : ℕ) (first : Option ℕ) (chunks : List (List ℕ)) (i : ℕ) (widths : List (Option ℕ)) (width : Option ℕ) : Type 0 where
  pub many : length widths ≡ i + 1
  pub now : width ≡ width_after_all delimiter first (take i chunks)
  pub each : (j : ℕ) → j ≤ i → get_or widths j None ≡ width_after_all delimiter first (take j chunks)

pub widths-none : (delimiter : ℕ) (first : Option ℕ) (chunks : List (List ℕ)) → AreWidths delimiter first chunks 0 (first ∷ []) first
widths-none delimiter first chunks = record { many = refl; now = refl; each = each }
  where
    each : (j : ℕ) → j ≤ 0 → get_or (first ∷ []) j None ≡ width_after_all delimiter first (take j chunks)
    each j le = let e : j ≡ 0 = omega (arith, le) in rw e refl

pub widths-more : (delimiter : ℕ) (first : Option ℕ) (chunks : List (Bor (List ℕ))) (i : ℕ) (widths : List (Option ℕ)) (width next : Option ℕ) (d : Bor (List ℕ)) → i < length chunks
    → next ≡ width_after width (file_records delimiter (get_or chunks i d).now) → AreWidths delimiter first (lent chunks) i widths width
    → AreWidths delimiter first (lent chunks) (i + 1) (widths ++ next ∷ []) next
widths-more delimiter first chunks i widths width next d lt is so =
    let long : i < length (lent chunks) = omega (arith, lt, length-map chunks (λ (c : Bor (List ℕ)). c.now)) in
    let chunk = get_or chunks i d in
    let here : get_or (lent chunks) i [] ≡ chunk.now = get_or-map (λ (c : Bor (List ℕ)). c.now) chunks i d [] lt in
    let step : next ≡ width_after_all delimiter first (take (i + 1) (lent chunks)) =
    is ∙ ap (λ w. width_after w (file_records delimiter chunk.now)) so.now ∙ ap (λ c. width_after (width_after_all delimiter first (take i (lent chunks))) (file_records delimiter c)) (sym here) ∙ sym (width-next delimiter first (lent chunks) i long) in
    record {
      many = length-append widths (next ∷ []) ∙ ap (λ n. n + 1) so.many;
      now = step;
      each = λ j le.
          elim (cases_eq j (i + 1)) [
            | inl e ↦ rw e (ap (λ n. get_or (widths ++ next ∷ []) n None) (sym so.many) ∙ get_or-append_seam {A = Option ℕ} widths next [] None ∙ step)
            | inr ne ↦
                get_or_append_left widths (next ∷ []) None j (omega (arith, le, ne, so.many)) ∙ so.each j (omega (arith, le, ne))
          ];
    }
