-- Values at the places of their indices.
use Rattle.std.proofs.Common.{◌≡◌, ◌∙◌, ◌<◌, ◌⊎◌, ◌∷◌, ℕ, Global, List, Err, Ok, Result, Vec, ap, arith, get_or, inl, inr, length, map, subst, sym}
use Rattle.std.specs.Prelude.{All, Contains, IfOk, slice_set}
use Rattle.std.proofs.lemmas.Bool.{cases_eq}
use Rattle.std.proofs.lemmas.List.{get_or-map, get_or-set_other, get_or-set_same, length-map}
use Rattle.std.proofs.lemmas.Result.{IfOk-weaker}
use Rattle.std.proofs.lemmas.List.Elements.{All-contains, All-head, All-same}
use Rattle.parallel.specs.Private.Done.{ArePlaced, AreResults, IsWithin}
use Rattle.parallel.specs.declared.collect.Done.{Done}

-- one more value is put at its place
pub placed-more : {T E : Type 0} (done : List (Done T)) (old new : List (Result T E)) (one : Done T) → one.index < length new → Contains done one → ArePlaced done old new
    → ArePlaced done old (slice_set new one.index (Ok one.value))
placed-more {T} {E} done old new one within has placed i d lt = elim (cases_eq i one.index) [
  | inl e ↦ inr (
    one.value,
    subst (λ k. get_or (slice_set new one.index (Ok one.value)) k d ≡ Ok one.value) (sym e) (get_or-set_same new one.index (Ok one.value) d within),
    subst (λ k. Contains done (record { index = k; value = one.value })) (sym e) has,
  )
  | inr ne ↦
      let same : get_or (slice_set new one.index (Ok one.value)) i d ≡ get_or new i d = get_or-set_other new one.index i (Ok one.value) d ne in
      subst (λ (r : Result T E). (r ≡ get_or old i d) ⊎ ((x : T) × (r ≡ Ok x) × Contains done (record { index = i; value = x }))) (sym same) (placed i d lt)
]

-- what holds of each value that is put at its place holds of the results
pub placed-results : {T E : Type 0} (P : ℕ → T → Type 0) (n : ℕ) (done : List (Done T)) (old new : List (Result T E)) → length old ≡ n → All (λ (one : Done T). P one.index one.value) done → ArePlaced done old new
    → AreResults P n old → AreResults P n new
placed-results {T} {E} P n done old new len all placed results i d lt = elim (placed i d (omega (arith, lt, len))) [
  | inl same ↦ subst (λ (r : Result T E). IfOk r (P i)) (sym same) (results i d lt)
  | inr own ↦ subst (λ (r : Result T E). IfOk r (P i)) (sym own.1) (All-contains (λ (one : Done T). P one.index one.value) done (record { index = i; value = own.0 }) all own.2)
]

-- the values of results none of which is an error
pub values-of : {T E : Type 0} (P : ℕ → T → Type 0) (n : ℕ) (results : List (Result T E)) (values : List T) → length results ≡ n → AreResults P n results → results ≡ map Ok values
    → (i : ℕ) (d : T) → i < n → P i (get_or values i d)
values-of {T} {E} P n results values len all is i d lt =
    let in_values : i < length values = omega (arith, lt, len, ap length is, length-map {B = Result T E} values Ok) in
    let same : get_or results i (Ok d) ≡ Ok (get_or values i d) = ap (λ rs. get_or rs i (Ok d)) is ∙ get_or-map Ok values i d (Ok d) in_values in
    subst (λ (r : Result T E). IfOk r (P i)) same (all i (Ok d) lt)

-- a value that is left is one of all, and its place is there
pub next-one : {T : Type 0} (done before rest : List (Done T)) (one : Done T) (n : ℕ) → before ≡ one ∷ rest → All (Contains done) before → All (IsWithin n) done → (one.index < n) × Contains done one
next-one {T} done before rest one n is all within =
    let has : Contains done one = All-head (Contains done) one rest (All-same (Contains done) (one ∷ rest) before (sym is) all) in (All-contains (IsWithin n) done one within has, has)

-- an error is as good a result as any
pub no-result : {T E : Type 0} (P : T → Type 0) (r : Result T E) → IfOk r (λ _. ⊥) → IfOk r P
no-result P r none = IfOk-weaker r (λ _. ⊥) P (λ _ never. absurd never) none

-- what holds of each list that is left holds of the next one
pub next-result : {X E : Type 0} (P : X → Type 0) (before rest : List (Result (Vec X Global) E)) (list : Result (Vec X Global) E) (own : Vec X Global)
    → before ≡ list ∷ rest → list ≡ Ok own → All (λ (r : Result (Vec X Global) E). IfOk r (λ it. All P it.items)) before → All P own.items
next-result {X} {E} P before rest list own is was all =
    let Holds : Result (Vec X Global) E → Type 0 = λ r. IfOk r (λ it. All P it.items) in subst Holds was (All-head Holds list rest (All-same Holds (list ∷ rest) before (sym is) all))

-- what the number of values and each of them say together
pub both-give : {X E : Type 0} (r : Result X E) (P Q S : X → Type 0) → ((x : X) → P x → Q x → S x) → IfOk r P → IfOk r Q → IfOk r S
both-give (Ok x) P Q S give p q = give x p q
both-give (Err e) P Q S give p q = tt
