-- A loop over the rows of some members.
use Rattle.std.proofs.Common.{ℕ, zero, suc, ◌≡◌, ◌+◌, ◌<◌, ◌==◌, true, false, List, [], ◌∷◌, ◌++◌, length, map, take, get_or, Option, Some, None, refl, ap, sym, ◌∙◌, arith}
use Rattle.std.specs.Prelude.{if◌then◌else◌}
use Rattle.std.specs.Iterator.{YieldsFirstBy, Yields}
use Rattle.std.proofs.lemmas.Bool.Decides.{nat_tests}
use Rattle.std.proofs.lemmas.List.{take_more}
use Rattle.std.proofs.lemmas.Iterator.Consumers.{YieldsList-from_first, YieldsList-turn, YieldsList-end}
use denote.Ref.{Bor}
use Rattle.bit_planes.specs.PartitionSet.{PartitionSet, partitions_of}
use Rattle.bit_planes.specs.SetRows.{SetRows, IsValidRows, find_row, row_of}
use Rattle.bit_planes.proofs.Indices.{found_at}
use Rattle.bit_planes.proofs.RowLaws.{over_at}

abbrev Rows : Type 0
Rows = List (ℕ × PartitionSet)

-- what a loop is given, as a row
abbrev pub row_seen : ℕ × Bor PartitionSet → ℕ × PartitionSet
row_seen row = (row.0, row.1.now)

abbrev pub Steps : Rows → Option (ℕ × Bor PartitionSet) → Rows → Type 0
Steps = YieldsFirstBy row_seen (λ s. s)

-- the row at an index, in a loop that has had those before it
pub record IsTurn (r : SetRows) (i : ℕ) (row : ℕ × PartitionSet) : Type 0 where
  pub within : i < length r.rows
  pub at : row ≡ get_or r.rows i row
  pub below : partitions_of row.1 ≡ r.partitions
  pub more : take (i + 1) r.rows ≡ take i r.rows ++ row ∷ []
  pub found : row_of r row.0 ≡ Some row.1

turn_at : (r : SetRows) (i : ℕ) (row : ℕ × PartitionSet) → IsValidRows r → i < length r.rows → row ≡ get_or r.rows i row → IsTurn r i row
turn_at r i row valid lt at = record {
  within = lt;
  at = at;
  below = ap (λ (x : ℕ × PartitionSet). partitions_of x.1) at ∙ over_at r.partitions r.rows i row valid.over lt;
  more = take_more r.rows i row lt ∙ ap (λ x. take i r.rows ++ x ∷ []) (sym at);
  found = found_at r.rows row.0 i row valid.rising lt (sym (ap (λ (x : ℕ × PartitionSet). x.0) at ∙ member_or r.rows i row lt)) ∙ ap (λ (x : ℕ × PartitionSet). Some x.1) (sym at);
}
  where
    member_or : (rows : Rows) (k : ℕ) (d : ℕ × PartitionSet) → k < length rows → (get_or rows k d).0 ≡ get_or (map (λ row. row.0) rows) k 0
    member_or [] k d lt = absurd (omega arith)
    member_or (row ∷ rows) zero d lt = refl
    member_or (row ∷ rows) (suc k) d lt = member_or rows k d (omega arith)

pub row_turn : (r : SetRows) (start t u : Rows) (xs : List (ℕ × Bor PartitionSet)) (x : Option (ℕ × Bor PartitionSet)) (row : ℕ × Bor PartitionSet)
    → IsValidRows r → start ≡ r.rows → Yields Steps start xs t → x ≡ Some row → Steps t x u → IsTurn r (length xs) (row_seen row)
row_turn r start t u xs x row valid begins yielded is steps =
    let turn = YieldsList-turn (YieldsList-from_first row_seen (λ s. s) r.rows begins) xs t yielded x u row is steps in
    turn_at r (length xs) (row_seen row) valid turn.0 turn.1

pub row_end : (r : SetRows) (start t u : Rows) (xs : List (ℕ × Bor PartitionSet)) (x : Option (ℕ × Bor PartitionSet))
    → start ≡ r.rows → Yields Steps start xs t → x ≡ None → Steps t x u → length xs ≡ length r.rows
row_end r start t u xs x begins yielded is steps =
    (YieldsList-end (YieldsList-from_first row_seen (λ s. s) r.rows begins) xs t yielded x u is steps).1

pub stands_at : (rows : Rows) (m : ℕ) (s : PartitionSet) → find_row rows m ≡ Some s → (i : ℕ) × (i < length rows) × (get_or rows i (m, s) ≡ (m, s))
stands_at [] m s e = absurd (cc e)
stands_at (row ∷ rows) m s e = elim (row.0 == m) as (λ b. (row.0 == m) ≡ b → (if b then Some row.1 else find_row rows m) ≡ Some s → (i : ℕ) × (i < length (row ∷ rows)) × (get_or (row ∷ rows) i (m, s) ≡ (m, s))) [
  | true ↦ λ same f.
      let number : row.0 ≡ m = says row.0 m same in
      let set : row.1 ≡ s = cc f in
      (0, omega arith, ap (λ n. (n, row.1)) number ∙ ap (λ x. (m, x)) set)
  | false ↦ λ other f. let rest = stands_at rows m s f in (suc rest.0, omega (arith, rest.1), rest.2)
] refl e
  where
    says : (a b : ℕ) → (a == b) ≡ true → a ≡ b
    says a b h = grind (arith, nat_tests)
