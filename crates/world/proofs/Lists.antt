-- Lookups in lists that changed at one index, or grew at the end.
use Rattle.std.proofs.Common.{◌≡◌, ◌⊎◌, ℕ, zero, suc, List, [], ◌∷◌, ◌++◌, Some, length, refl, ap, inl, inr, arith}
use Rattle.std.specs.Prelude.{slice_get, slice_set}

pub get_set : {A : Type 0} (xs : List A) (i j : ℕ) (c x : A) → slice_get (slice_set xs i c) j ≡ Some x → ((j ≡ i) × (x ≡ c)) ⊎ ((j ≡ i → ⊥) × (slice_get xs j ≡ Some x))
get_set [] i j c x e = absurd (cc e)
get_set (y ∷ xs) zero zero c x e = inl (refl, cc)
get_set (y ∷ xs) zero (suc j) c x e = inr ((λ s. omega arith), e)
get_set (y ∷ xs) (suc i) zero c x e = inr ((λ s. omega arith), e)
get_set (y ∷ xs) (suc i) (suc j) c x e =
    elim (get_set xs i j c x e) [
      | inl at ↦ inl (ap suc at.0, at.1)
      | inr other ↦ inr ((λ s. other.0 (omega arith)), other.1)
    ]

pub get_push : {A : Type 0} (xs : List A) (c x : A) (j : ℕ) → slice_get (xs ++ c ∷ []) j ≡ Some x → ((j ≡ length xs) × (x ≡ c)) ⊎ (slice_get xs j ≡ Some x)
get_push [] c x zero e = inl (refl, cc)
get_push [] c x (suc j) e = absurd (cc e)
get_push (y ∷ xs) c x zero e = inr e
get_push (y ∷ xs) c x (suc j) e =
    elim (get_push xs c x j e) [
      | inl at ↦ inl (ap suc at.0, at.1)
      | inr old ↦ inr old
    ]

pub get_last : {A : Type 0} (xs : List A) (c : A) → slice_get (xs ++ c ∷ []) (length xs) ≡ Some c
get_last [] c = refl
get_last (y ∷ xs) c = get_last xs c
