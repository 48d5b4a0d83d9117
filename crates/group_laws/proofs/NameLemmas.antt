-- The number that a name stands for.
use Rattle.std.proofs.Common.{ℕ, zero, suc, ◌≡◌, ◌+◌, ◌≤◌, Bool, true, false, ◌⊎◌, inl, inr, List, [], ◌∷◌, Option, Some, None, map, slice_get, refl, ap, sym, ◌∙◌, arith, cond}
use Rattle.std.proofs.lemmas.Bool.{false≢true}
use Rattle.std.proofs.lemmas.Slice.Eq.{bytes_eq-Decides}
use Rattle.std.specs.Option.{option_or}
use Rattle.std.specs.Str.{bytes_eq}
use Rattle.group_machine.specs.declared.group.Slot.{Slot}
use Rattle.group_machine.specs.declared.group.Seat.{Seat}
use Rattle.group_machine.specs.Slots.{reseated_from}
use Rattle.group_machine.specs.State.{GroupState, number_from}
use Rattle.group_laws.specs.Names.{HasNumber, names}

abbrev name_list : List Slot → List (List ℕ)
name_list slots = map (λ s. s.name) slots

some_same : (xs ys : List ℕ) → Some xs ≡ Some ys → xs ≡ ys
some_same xs ys e = cc

abbrev HasNoneFrom : List Slot → List ℕ → ℕ → Type 0
HasNoneFrom slots name from = (k : ℕ) → from ≤ k → slice_get (name_list slots) k ≡ Some name → ⊥

-- the number that is found is of the last slot with the name
record IsFound (m : ℕ) (slots : List Slot) (name : List ℕ) (k : ℕ) : Type 0 where
  found : number_from m slots name ≡ Some (m + k)
  named : slice_get (name_list slots) k ≡ Some name
  newest : HasNoneFrom slots name (suc k)

record IsMissing (m : ℕ) (slots : List Slot) (name : List ℕ) : Type 0 where
  found : number_from m slots name ≡ None
  none : HasNoneFrom slots name 0

found_later : (m : ℕ) (s : Slot) (slots : List Slot) (name : List ℕ) (k : ℕ) → IsFound (suc m) slots name k → IsFound m (s ∷ slots) name (suc k)
found_later m s slots name k f = record {
  found = ap (λ o. option_or o (cond (bytes_eq s.name name) (Some m) None)) f.found ∙ ap (λ n. Some n) (let e : suc m + k ≡ m + suc k = omega arith in e);
  named = f.named;
  newest = later;
}
  where
    later : HasNoneFrom (s ∷ slots) name (suc (suc k))
    later zero le e = omega arith
    later (suc j) le e = f.newest j (omega arith) e

found_first : (m : ℕ) (s : Slot) (slots : List Slot) (name : List ℕ) → IsMissing (suc m) slots name → (b : Bool) → bytes_eq s.name name ≡ b → ((k : ℕ) × IsFound m (s ∷ slots) name k) ⊎ IsMissing m (s ∷ slots) name
found_first m s slots name r true same =
    let z : m ≡ m + 0 = omega arith in
    inl (
      0,
      record {
        found = ap (λ o. option_or o (cond (bytes_eq s.name name) (Some m) None)) r.found ∙ ap (λ b. cond b (Some m) None) same ∙ ap (λ n. Some n) z;
        named = ap (λ n. Some n) ((bytes_eq-Decides s.name name).0 same);
        newest = later;
      },
    )
  where
    later : HasNoneFrom (s ∷ slots) name 1
    later zero le e = omega arith
    later (suc j) le e = r.none j (omega arith) e
found_first m s slots name r false other = inr (record {
  found = ap (λ o. option_or o (cond (bytes_eq s.name name) (Some m) None)) r.found ∙ ap (λ b. cond b (Some m) None) other;
  none = none;
})
  where
    none : HasNoneFrom (s ∷ slots) name 0
    none zero le e = false≢true (sym other ∙ (bytes_eq-Decides s.name name).1 (some_same s.name name e))
    none (suc j) le e = r.none j (omega arith) e

find_named : (m : ℕ) (slots : List Slot) (name : List ℕ) → ((k : ℕ) × IsFound m slots name k) ⊎ IsMissing m slots name
find_named m [] name = inr (record { found = refl; none = λ k le e. cc })
find_named m (s ∷ slots) name = elim (find_named (suc m) slots name) [
  | inl f ↦ inl (suc f.0, found_later m s slots name f.0 f.1)
  | inr r ↦ found_first m s slots name r (bytes_eq s.name name) refl
]

pub name_has_number : (g : GroupState) (name : List ℕ) (i : ℕ) → slice_get (names g) i ≡ Some name → HasNumber g name
name_has_number g name i e = elim (find_named 1 g.slots name) [
  | inl f ↦ record {
    index = f.0;
    number = f.1.found ∙ ap (λ n. Some n) (let c : 1 + f.0 ≡ f.0 + 1 = omega arith in c);
    named = f.1.named;
    newest = λ later lt is. f.1.newest later (omega arith) is;
  }
  | inr r ↦ absurd (r.none i (omega arith) e)
]

pub number_reseated : (m n : ℕ) (f : ℕ → Option Seat → Option Seat) (slots : List Slot) (name : List ℕ) → number_from m (reseated_from n f slots) name ≡ number_from m slots name
number_reseated m n f [] name = refl
number_reseated m n f (s ∷ slots) name = ap (λ o. option_or o (cond (bytes_eq s.name name) (Some m) None)) (number_reseated (suc m) (suc n) f slots name)
