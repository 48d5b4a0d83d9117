-- A loop over a set of partitions that writes who takes each.
use Rattle.std.proofs.Common.{ℕ, ◌≡◌, ◌≢◌, ◌<◌, ◌==◌, Bool, true, false, ◌||◌, List, [], ◌∷◌, Option, Some, None, length, slice_index_or, refl, ap, sym, ◌∙◌, arith, inl, inr}
use Rattle.std.specs.Prelude.{slice_set}
use Rattle.std.proofs.lemmas.Bool.{cases_eq}
use Rattle.std.proofs.lemmas.Bool.Decides.{nat_tests}
use Rattle.std.proofs.lemmas.List.{get_or-set_other, get_or-set_same}
use Rattle.std.proofs.Math.ListN.{length-set}
use Rattle.bit_planes.specs.PartitionSet.{PartitionSet, elements, is_in}
use Rattle.bit_planes.proofs.Listed.{is_listed, listed_elements}
use Rattle.group_machine.specs.Private.Walks.{taken_by}

-- partitions that are left are in the set and as they were; all others are as after the loop
pub record AreTaken (member : ℕ) (added : PartitionSet) (old takers : List (Option ℕ)) (left : List ℕ) : Type 0 where
  pub long : length takers ≡ length old
  pub done : (q : ℕ) → is_listed q left ≡ false → slice_index_or takers q None ≡ taken_by member added old q
  pub within : (q : ℕ) → is_listed q left ≡ true → is_in added q ≡ true

not_taken : (member : ℕ) (added : PartitionSet) (old : List (Option ℕ)) (q : ℕ) → is_in added q ≡ false → slice_index_or old q None ≡ taken_by member added old q
not_taken member added old q e = rw e refl

pub none_taken : (member : ℕ) (added : PartitionSet) (old : List (Option ℕ)) (left : List ℕ) → left ≡ elements added → AreTaken member added old old left
none_taken member added old left all = record {
  long = refl;
  done = λ q h. not_taken member added old q (sym (listed q) ∙ h);
  within = λ q h. sym (listed q) ∙ h;
}
  where
    listed : (q : ℕ) → is_listed q left ≡ is_in added q
    listed q = ap (is_listed q) all ∙ listed_elements added q

this : (p : ℕ) (b : Bool) → ((p == p) || b) ≡ true
this p true = grind (arith, nat_tests)
this p false = grind (arith, nat_tests)

later : (x b : Bool) → b ≡ true → (x || b) ≡ true
later true b e = refl
later false b e = e

neither : (k p : ℕ) (b : Bool) → k ≢ p → b ≡ false → ((k == p) || b) ≡ false
neither k p b ne e = grind (arith, nat_tests, e)

pub next_taken : (member : ℕ) (added : PartitionSet) (old takers : List (Option ℕ)) (left : List ℕ) (p : ℕ) (next : List ℕ) → left ≡ p ∷ next → AreTaken member added old takers left → is_in added p ≡ true
next_taken member added old takers left p next steps was = was.within p (ap (is_listed p) steps ∙ this p (is_listed p next))

pub one_taken : (member : ℕ) (added : PartitionSet) (old takers : List (Option ℕ)) (left : List ℕ) (p : ℕ) (next : List ℕ) → left ≡ p ∷ next → p < length old → AreTaken member added old takers left → AreTaken member added old (slice_set takers p (Some member)) next
one_taken member added old takers left p next steps lt was = record {
  long = length-set takers p (Some member) ∙ was.long;
  done = λ q h. elim (cases_eq q p) [
    | inl same ↦ rw same (get_or-set_same takers p (Some member) None (let long = was.long in omega (arith, lt, long)) ∙ sym (taken (is_in added p) (next_taken member added old takers left p next steps was)))
    | inr other ↦ get_or-set_other takers p q (Some member) None other ∙ was.done q (ap (is_listed q) steps ∙ neither q p (is_listed q next) other h)
  ];
  within = λ q h. was.within q (ap (is_listed q) steps ∙ later (q == p) (is_listed q next) h);
}
  where
    taken : (b : Bool) → is_in added p ≡ true → taken_by member added old p ≡ Some member
    taken b e = rw e refl
