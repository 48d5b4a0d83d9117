-- What holds of two slices of a list holds of the list.
use Rattle.std.proofs.Common.{◌≡◌, ◌∙◌, ◌+◌, ◌-◌, ◌<◌, ℕ, List, ◌++◌, length, get_or, ap, arith, subst, sym, ⊎_elim}
use Rattle.std.proofs.lemmas.Bool.{cases_lt}
use Rattle.std.proofs.lemmas.List.{get_or_append_left, length-append}
use lib.Seq.{get_or-append-add}
use Rattle.parallel.specs.Private.Each.{AllFrom, ChangesFrom}

-- an element behind the first n
get_or_behind : {X : Type 0} (a b : List X) (n k : ℕ) (d : X) → length a ≡ n → get_or (a ++ b) (n + k) d ≡ get_or b k d
get_or_behind a b n k d len = subst (λ m. get_or (a ++ b) (m + k) d ≡ get_or b k d) len (get_or-append-add a b k d)

pub others-accept : {X : Type 0} (P : ℕ → X → Type 0) (from n : ℕ) (xs a b : List X) → xs ≡ a ++ b → length a ≡ n → AllFrom P from xs → AllFrom P (from + n) b
others-accept P from n xs a b whole len all k d lt =
    let in_xs : n + k < length xs = omega (arith, ap length whole, length-append a b) in
    let same : get_or xs (n + k) d ≡ get_or b k d = ap (λ l. get_or l (n + k) d) whole ∙ get_or_behind a b n k d len in
    let index : from + (n + k) ≡ from + n + k = omega arith in
    subst (λ x. P (from + n + k) x) same (subst (λ i. P i (get_or xs (n + k) d)) index (all (n + k) d in_xs))

pub both-change : {X : Type 0} (R : ℕ → X → X → Type 0) (from n : ℕ) (xs a b a2 b2 : List X) → xs ≡ a ++ b → length a ≡ n → ChangesFrom R from a a2 → ChangesFrom R (from + n) b b2
    → ChangesFrom R from xs (a2 ++ b2)
both-change {X} R from n xs a b a2 b2 whole len first others =
    record { len = omega (arith, ap length whole, length-append a b, length-append a2 b2, first.len, others.len); each = each }
  where
    each : (k : ℕ) (d : X) → k < length xs → R (from + k) (get_or xs k d) (get_or (a2 ++ b2) k d)
    each k d lt =
        ⊎_elim
        (λ left.
        let in_a : k < length a = left in
        let in_a2 : k < length a2 = omega (arith, first.len) in
        let old : get_or a k d ≡ get_or xs k d = sym (ap (λ l. get_or l k d) whole ∙ get_or_append_left a b d k in_a) in
        let new : get_or a2 k d ≡ get_or (a2 ++ b2) k d = sym (get_or_append_left a2 b2 d k in_a2) in
        subst (λ y. R (from + k) (get_or xs k d) y) new (subst (λ x. R (from + k) x (get_or a2 k d)) old (first.each k d in_a)))
        (λ right.
        let j : ℕ = k - n in
        let at : n + j ≡ k = omega (arith, len) in
        let in_b : j < length b = omega (arith, ap length whole, length-append a b, len, at) in
        let len2 : length a2 ≡ n = first.len ∙ len in
        let old : get_or b j d ≡ get_or xs k d =
        sym (ap (λ l. get_or l k d) whole ∙ ap (λ i. get_or (a ++ b) i d) (sym at) ∙ get_or_behind a b n j d len) in
        let new : get_or b2 j d ≡ get_or (a2 ++ b2) k d = sym (ap (λ i. get_or (a2 ++ b2) i d) (sym at) ∙ get_or_behind a2 b2 n j d len2) in
        let index : from + n + j ≡ from + k = omega (arith, at) in
        subst (λ y. R (from + k) (get_or xs k d) y) new
        (subst (λ x. R (from + k) x (get_or b2 j d)) old (subst (λ i. R i (get_or b j d) (get_or b2 j d)) index (others.each j d in_b))))
        (cases_lt k (length a))

-- an item of a list that begins at index 0
pub from-zero : {X : Type 0} (R : ℕ → X → X → Type 0) (xs ys : List X) → ChangesFrom R 0 xs ys → (i : ℕ) (d : X) → i < length xs → R i (get_or xs i d) (get_or ys i d)
from-zero R xs ys all i d lt = subst (λ j. R j (get_or xs i d) (get_or ys i d)) {x = 0 + i} (omega arith) (all.each i d lt)
