-- The pairs that the plain program makes of the runs of equal numbers in a list whose numbers rise.
use Rattle.std.proofs.Common.{◌≡◌, ◌≢◌, ◌∙◌, ◌+◌, ◌-◌, ◌<◌, ◌≤◌, ℕ, zero, suc, List, [], ◌∷◌, ◌++◌, length, take, cond, get_or, sym, ap, refl, arith, Option, Some, None, inl, inr}
use Rattle.std.specs.Prelude.{◌==◌}
use Rattle.std.specs.Map.{update}
use Rattle.std.specs.Option.{unwrap_or}
use Rattle.std.specs.Ordering.{eq_by_cmp, nat_cmp}
use Rattle.std.specs.List.Sorted.{IsNonDecreasing}
use Rattle.std.proofs.lemmas.Bool.{cases_lt}
use Rattle.std.proofs.lemmas.Bool.Decides.{eqb_tells, nat_tests}
use Rattle.std.proofs.lemmas.List.{take_all}
use Rattle.std.proofs.lemmas.List.Sums.{fold-append}
use Rattle.keyed_table.specs.Counts.{plain}
use Rattle.cluster_tests.proofs.reference_partial.Runs.{all_equal, none-before, run-other, run-same}
use Rattle.cluster_tests.specs.ReferencePartial.{counted, value_in}

pub counted-some : (n : ℕ) → 0 < n → Some n ≡ counted n
counted-some zero lt = absurd (omega (arith, lt))
counted-some (suc n) lt = refl

pub count-of-counted : (n : ℕ) → unwrap_or (counted n) 0 ≡ n
count-of-counted zero = refl
count-of-counted (suc n) = refl

pub of-counted : (n m : ℕ) → Some m ≡ counted n → m ≡ n
of-counted zero m e = absurd (cc e)
of-counted (suc n) m e = cc e

pub none-counted : (n : ℕ) → None ≡ counted n → 0 ≡ n
none-counted zero e = refl
none-counted (suc n) e = absurd (cc e)

-- the runs before start are listed, from start on there are equal numbers, and those before start are smaller
pub record AreListed (runs : List (ℕ × ℕ)) (ids : List ℕ) (start at : ℕ) : Type 0 where
  pub so_far : (x : ℕ) → value_in runs x ≡ counted (plain (take start ids) x)
  pub order : start ≤ at
  pub run : at < length ids → (j : ℕ) → start ≤ j → j < at → get_or ids j 0 ≡ get_or ids at 0
  pub below : at < length ids → (j : ℕ) → j < start → get_or ids j 0 < get_or ids at 0
  pub ended : at ≡ length ids → start ≡ at

value-push : (runs : List (ℕ × ℕ)) (v n x : ℕ) → value_in (runs ++ (v, n) ∷ []) x ≡ cond (eq_by_cmp nat_cmp v x) (Some n) (value_in runs x)
value-push runs v n x = ap (λ (f : ℕ → Option ℕ). f x) (fold-append (λ (g : ℕ → Option ℕ) (p : ℕ × ℕ). update (eq_by_cmp nat_cmp) g p.0 (Some p.1)) (λ y. None) runs ((v, n) ∷ []))

same_test : (v x : ℕ) → eq_by_cmp nat_cmp v x ≡ (v == x)
same_test v x = grind (arith, nat_tests)

pub run-listed : (runs : List (ℕ × ℕ)) (ids : List ℕ) (start at : ℕ) → IsNonDecreasing ids → at < length ids → AreListed runs ids start at
    → (at + 1 < length ids → get_or ids (at + 1) 0 ≢ get_or ids at 0)
    → AreListed (runs ++ (get_or ids at 0, at + 1 - start) ∷ []) ids (at + 1) (at + 1)
run-listed runs ids start at rising lt h ends =
    let v = get_or ids at 0 in
    let more = at + 1 - start in
    let to : start + more ≡ at + 1 = omega (arith, h.order) in
    let equal : (j : ℕ) → start ≤ j → j < start + more → get_or ids j 0 ≡ v = λ j from before. all_equal ids start at j (h.run lt) from (omega (arith, before, to)) in
    let none = none-before ids start v (omega (arith, lt, h.order)) (h.below lt) in
    record {
      so_far = λ x. value-push runs v more x ∙ elim (eqb_tells v x) [
        | inl t ↦
            let whole = run-same ids start more v (omega (arith, to, lt)) equal in
            let sum : more ≡ plain (take (at + 1) ids) v = omega (arith, none, whole, ap (λ n. plain (take n ids) v) to) in
            rw (same_test v x, t.0) (ap (λ n. Some n) sum ∙ counted-some (plain (take (at + 1) ids) v) (omega (arith, sum, h.order)) ∙ ap (λ y. counted (plain (take (at + 1) ids) y)) t.1)
        | inr f ↦
            rw (same_test v x, f.0) (h.so_far x ∙ ap counted (sym (run-other ids start more v x (omega (arith, to, lt)) (λ e. f.1 (sym e)) equal) ∙ ap (λ n. plain (take n ids) x) to))
      ];
      order = omega arith;
      run = λ lt' j from before. absurd (omega (arith, from, before));
      below = λ lt' j before.
          let step = rising j at 0 (omega (arith, before)) lt in
          let next = rising at (at + 1) 0 (omega arith) lt' in
          elim (cases_lt (get_or ids at 0) (get_or ids (at + 1) 0)) [
            | inl less ↦ omega (arith, step, less)
            | inr le ↦ absurd (ends lt' (omega (arith, next, le)))
          ];
      ended = λ e. refl;
    }

pub run-grows : (runs : List (ℕ × ℕ)) (ids : List ℕ) (start at : ℕ) → AreListed runs ids start at → at + 1 < length ids → get_or ids (at + 1) 0 ≡ get_or ids at 0 → AreListed runs ids start (at + 1)
run-grows runs ids start at h lt same = record {
  so_far = h.so_far;
  order = omega (arith, h.order);
  run = λ lt' j from to. all_equal ids start at j (h.run (omega (arith, lt))) from to ∙ sym same;
  below = λ lt' j before. rw same (h.below (omega (arith, lt)) j before);
  ended = λ e. absurd (omega (arith, e, lt));
}

pub all-listed : (runs : List (ℕ × ℕ)) (ids : List ℕ) (start at : ℕ) → AreListed runs ids start at → at ≡ length ids → (x : ℕ) → value_in runs x ≡ counted (plain ids x)
all-listed runs ids start at h e x = h.so_far x ∙ ap (λ ys. counted (plain ys x)) (take_all start ids (omega (arith, e, h.ended e)))
