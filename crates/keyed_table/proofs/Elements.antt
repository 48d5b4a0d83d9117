-- Numbers that are in a list, and how often.
use Rattle.std.proofs.Common.{◌≡◌, ◌≢◌, ◌∙◌, ◌+◌, ◌<◌, ◌≤◌, ℕ, suc, true, false, List, [], ◌∷◌, length, cond, get_or, sym, ap, refl, arith, inl, inr, ◌++◌, take}
use Rattle.std.specs.Prelude.{◌==◌}
use Rattle.std.proofs.lemmas.Bool.Decides.{eqb_tells}
use Rattle.std.proofs.lemmas.Grind.{common_steps}
use Rattle.std.proofs.lemmas.List.{take_more}
use Rattle.std.proofs.lemmas.List.Sums.{sum_by-cons}
use Rattle.keyed_table.specs.Counts.{plain}

pub occurs-somewhere : (ids : List ℕ) (x : ℕ) → 0 < plain ids x → (i : ℕ) × (i < length ids) × (get_or ids i 0 ≡ x)
occurs-somewhere [] x more = absurd (omega (arith, more))
occurs-somewhere (id ∷ ids) x more =
    elim (eqb_tells x id) [
      | inl t ↦ (0, omega arith, sym t.1)
      | inr f ↦
          let rest = occurs-somewhere ids x (omega (arith, more, sum_by-cons (λ y. cond (x == y) 1 0) id ids, ap (λ b. cond b 1 0 + plain ids x) f.0)) in
          (suc rest.0, omega (arith, rest.1), rest.2)
    ]

pub none-past : (ids : List ℕ) (bound x : ℕ) → ((i : ℕ) → i < length ids → get_or ids i 0 < bound) → bound ≤ x → plain ids x ≡ 0
none-past [] bound x below le = refl
none-past (id ∷ ids) bound x below le =
    elim (eqb_tells x id) [
      | inl t ↦ absurd (omega (arith, t.1, below 0 (omega arith), le))
      | inr f ↦ sum_by-cons (λ y. cond (x == y) 1 0) id ids ∙ ap (λ b. cond b 1 0 + plain ids x) f.0 ∙ omega (arith, none-past ids bound x (λ i lt. below (suc i) (omega (arith, lt))) le)
    ]

pub plain-push : (ids : List ℕ) (y x : ℕ) → plain (ids ++ y ∷ []) x ≡ plain ids x + cond (x == y) 1 0
plain-push [] y x = grind (arith, common_steps)
plain-push (i ∷ ids) y x = let ih = plain-push ids y x in grind (arith, common_steps)

pub plain-next : (ids : List ℕ) (n x : ℕ) → n < length ids → plain (take (n + 1) ids) x ≡ plain (take n ids) x + cond (x == get_or ids n 0) 1 0
plain-next ids n x lt = ap (λ ys. plain ys x) (take_more ids n 0 lt) ∙ plain-push (take n ids) (get_or ids n 0) x

is_self : (x : ℕ) → (x == x) ≡ true
is_self x = elim (eqb_tells x x) [
  | inl t ↦ t.0
  | inr f ↦ absurd (f.1 refl)
]

is_other : (x y : ℕ) → x ≢ y → (x == y) ≡ false
is_other x y ne = elim (eqb_tells x y) [
  | inl t ↦ absurd (ne t.1)
  | inr f ↦ f.0
]

pub plain-next-own : (ids : List ℕ) (n : ℕ) → n < length ids → plain (take (n + 1) ids) (get_or ids n 0) ≡ plain (take n ids) (get_or ids n 0) + 1
plain-next-own ids n lt = plain-next ids n (get_or ids n 0) lt ∙ ap (λ b. plain (take n ids) (get_or ids n 0) + cond b 1 0) (is_self (get_or ids n 0))

pub plain-next-other : (ids : List ℕ) (n : ℕ) → n < length ids → (x : ℕ) → x ≢ get_or ids n 0 → plain (take (n + 1) ids) x ≡ plain (take n ids) x
plain-next-other ids n lt x ne = plain-next ids n x lt ∙ ap (λ b. plain (take n ids) x + cond b 1 0) (is_other x (get_or ids n 0) ne) ∙ omega arith
