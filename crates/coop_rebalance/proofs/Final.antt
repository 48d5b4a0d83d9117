-- Rows that agree, and rows that do not.
use Rattle.std.proofs.Common.{ℕ, ◌≡◌, ◌<◌, ◌∙◌, Bool, true, false, ◌+◌, length, get_or, Option, Some, None, refl, ap, sym, arith, inl, inr}
use Rattle.std.proofs.lemmas.Bool.{cases_lt}
use Rattle.std.proofs.lemmas.List.{get_or_default}
use Rattle.std.specs.Prelude.{IsTrue, ◌↔◌}
use Rattle.bit_planes.specs.PartitionSet.{PartitionSet}
use Rattle.bit_planes.specs.SetRows.{SetRows, HaveSameRows, IsValidRows, row_of}
use Rattle.bit_planes.proofs.RowLaws.{same_rows}
use Rattle.bit_planes.proofs.Walks.{stands_at}
use Rattle.coop_rebalance.specs.Private.Final.{HasRowsOf}

pub lacks_row : (r s : SetRows) (m : ℕ) (row : PartitionSet) → row_of s m ≡ Some row → (row_of r m ≡ Some row → ⊥)
    → IsTrue false ↔ HasRowsOf r s
lacks_row r s m row there lacks = (λ no. absurd (cc no), λ has. absurd (lacks (has m row there)))

pub has_all_rows : (r s : SetRows)
    → ((i : ℕ) (d : ℕ × PartitionSet) → i < length s.rows → row_of r (get_or s.rows i d).0 ≡ Some (get_or s.rows i d).1)
    → IsTrue true ↔ HasRowsOf r s
has_all_rows r s all = (
  λ yes m row there.
      let at = stands_at s.rows m row there in
      let here : ℕ × PartitionSet = get_or s.rows at.0 (m, row) in
      ap (λ (x : ℕ × PartitionSet). row_of r x.0) (sym at.2) ∙ all at.0 (m, row) at.1 ∙ ap (λ (x : ℕ × PartitionSet). Some x.1) at.2,
  λ has. refl,
)

pub one_more : (r s : SetRows) (k : ℕ) (item : ℕ × PartitionSet) → k < length s.rows → item ≡ get_or s.rows k item → row_of r item.0 ≡ Some item.1
    → ((i : ℕ) (d : ℕ × PartitionSet) → i < k → row_of r (get_or s.rows i d).0 ≡ Some (get_or s.rows i d).1)
    → (i : ℕ) (d : ℕ × PartitionSet) → i < k + 1 → row_of r (get_or s.rows i d).0 ≡ Some (get_or s.rows i d).1
one_more r s k item lt at here before i d less = elim (cases_lt i k) [
  | inl below ↦ before i d below
  | inr ge ↦
      let e : i ≡ k = omega arith in
      let there : item ≡ get_or s.rows i d = at ∙ get_or_default s.rows k item d lt ∙ ap (λ n. get_or s.rows n d) (sym e) in
      ap (λ (x : ℕ × PartitionSet). row_of r x.0) (sym there) ∙ here ∙ ap (λ (x : ℕ × PartitionSet). Some x.1) there
]

same_found : (a b : Option PartitionSet) → ((s : PartitionSet) → a ≡ Some s → b ≡ Some s) → ((s : PartitionSet) → b ≡ Some s → a ≡ Some s) → a ≡ b
same_found None None there back = refl
same_found None (Some s) there back = back s refl
same_found (Some s) b there back = sym (there s refl)

same_of : (r s : SetRows) → HasRowsOf r s → HasRowsOf s r → HaveSameRows r s
same_of r s here there m = same_found (row_of r m) (row_of s m) (there m) (here m)

pub equal_iff : (r s : SetRows) (b : Bool) → IsValidRows r → IsValidRows s → r.partitions ≡ s.partitions
    → HasRowsOf r s → IsTrue b ↔ HasRowsOf s r → IsTrue b ↔ (r ≡ s)
equal_iff r s b valid valid' below here there = (
  λ yes. same_rows r s valid valid' below (same_of r s here (there.0 yes)),
  λ same. there.1 (λ m row e. sym (ap (λ x. row_of x m) same) ∙ e),
)
