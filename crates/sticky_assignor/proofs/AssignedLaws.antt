-- The assigned rows under their members' numbers.
use Rattle.std.proofs.Common.{ℕ, suc, ◌≡◌, ◌<◌, ◌≤◌, ◌==◌, true, false, List, [], ◌∷◌, length, map, get_or, cond, refl, ap, sym, ◌∙◌, subst, arith}
use Rattle.std.specs.Prelude.{Some}
use Rattle.std.specs.List.Sorted.{IsStrictlyIncreasing}
use Rattle.bit_planes.specs.PartitionSet.{PartitionSet, partitions_of}
use Rattle.bit_planes.specs.SetRows.{SetRows, members, find_row, set_or_empty, sets_of, AreOver, IsValidRows}
use Rattle.bit_planes.proofs.Sets.{partitions_empty}
use Rattle.sticky_assignor.specs.Balanced.{AreDisjoint, AreBelow, IsBalanced}
use Rattle.sticky_assignor.specs.Private.Filling.{quotas, quotas_by, sizes, retaining, free_of, gaps, filled}
use Rattle.sticky_assignor.specs.Retained.{retained, RetainsMost}
use Rattle.sticky_assignor.specs.Target.{target}
use Rattle.bit_planes.proofs.RowLaws.{rising_first, rising_rest}
use Rattle.sticky_assignor.proofs.Rows.{eq_self, not_eq}
use Rattle.sticky_assignor.proofs.TargetLaws.{is_balanced, retains_most}
use Rattle.sticky_assignor.proofs.Ranks.{filling_is_target, length_quotas}
use Rattle.sticky_assignor.proofs.Steps.{quotas_by_is}
use Rattle.sticky_assignor.specs.Assigned.{pair_up, assigned, target_rows}
use Rattle.sticky_assignor.proofs.SecondRound.{target_over, length_target}

pub members_paired : (ms : List ℕ) (rows : List PartitionSet) → length rows ≡ length ms → map (λ row. row.0) (pair_up ms rows) ≡ ms
members_paired [] rows len = refl
members_paired (m ∷ ms) [] len = absurd (omega arith)
members_paired (m ∷ ms) (row ∷ rows) len = ap (λ ns. m ∷ ns) (members_paired ms rows (omega arith))

map_same : (f g : ℕ → PartitionSet) (ms : List ℕ) → ((i : ℕ) → i < length ms → f (get_or ms i 0) ≡ g (get_or ms i 0)) → map f ms ≡ map g ms
map_same f g [] same = refl
map_same f g (m ∷ ms) same = rw (same 0 (omega arith)) (ap (λ ss. g m ∷ ss) (map_same f g ms (λ i lt. same (suc i) (omega arith))))

pub sets_paired : (p : ℕ) (ms : List ℕ) (rows : List PartitionSet) → length rows ≡ length ms → IsStrictlyIncreasing ms → map (λ m. set_or_empty p (find_row (pair_up ms rows) m)) ms ≡ rows
sets_paired p [] [] len rising = refl
sets_paired p [] (row ∷ rows) len rising = absurd (omega arith)
sets_paired p (m ∷ ms) [] len rising = absurd (omega arith)
sets_paired p (m ∷ ms) (row ∷ rows) len rising =
    let first : set_or_empty p (cond (m == m) (Some row) (find_row (pair_up ms rows) m)) ≡ row = rw (eq_self m) refl in
    let later : map (λ n. set_or_empty p (cond (m == n) (Some row) (find_row (pair_up ms rows) n))) ms ≡ map (λ n. set_or_empty p (find_row (pair_up ms rows) n)) ms =
    map_same (λ n. set_or_empty p (cond (m == n) (Some row) (find_row (pair_up ms rows) n))) (λ n. set_or_empty p (find_row (pair_up ms rows) n)) ms (λ i lt. rw (not_eq m (get_or ms i 0) (rising_first m ms rising i lt)) refl) in
    rw (first, later) (ap (λ ss. row ∷ ss) (sets_paired p ms rows (omega arith) (rising_rest m ms rising)))

pub over_paired : (p : ℕ) (ms : List ℕ) (rows : List PartitionSet) → AreBelow p rows → AreOver p (pair_up ms rows)
over_paired p [] rows over = tt
over_paired p (m ∷ ms) [] over = tt
over_paired p (m ∷ ms) (row ∷ rows) over = (over.0, over_paired p ms rows over.1)

partitions_found : (p : ℕ) (rows : List (ℕ × PartitionSet)) (m : ℕ) → AreOver p rows → partitions_of (set_or_empty p (find_row rows m)) ≡ p
partitions_found p [] m over = partitions_empty p
partitions_found p (row ∷ rows) m over =
    elim (row.0 == m) as (λ b. partitions_of (set_or_empty p (cond b (Some row.1) (find_row rows m))) ≡ p) [
      | true ↦ over.0
      | false ↦ partitions_found p rows m over.1
    ]

pub sets_over : (r : SetRows) (ms : List ℕ) → IsValidRows r → AreBelow r.partitions (sets_of r ms)
sets_over r [] retained = tt
sets_over r (m ∷ ms) retained = (partitions_found r.partitions r.rows m retained.over, sets_over r ms retained)

pub length_sets : (r : SetRows) (ms : List ℕ) → length (sets_of r ms) ≡ length ms
length_sets r [] = refl
length_sets r (m ∷ ms) = ap (λ n. suc n) (length_sets r ms)

pub below_assigned : (p : ℕ) (ms : List ℕ) (owned : SetRows) → (assigned p ms owned).partitions ≡ p
unfolding assigned
below_assigned p ms owned = refl

pub rows_assigned : (p : ℕ) (ms : List ℕ) (owned : SetRows) → (assigned p ms owned).rows ≡ pair_up ms (target p (sets_of owned ms))
unfolding assigned
rows_assigned p ms owned = refl

pub members_assigned : (p : ℕ) (ms : List ℕ) (owned : SetRows) → members (assigned p ms owned) ≡ ms
members_assigned p ms owned =
    ap (λ rows. map (λ row. row.0) rows) (rows_assigned p ms owned) ∙ members_paired ms (target p (sets_of owned ms)) (length_target p (sets_of owned ms) ∙ length_sets owned ms)

pub sets_assigned : (p : ℕ) (ms : List ℕ) (owned : SetRows) → IsStrictlyIncreasing ms → sets_of (assigned p ms owned) ms ≡ target p (sets_of owned ms)
unfolding assigned
sets_assigned p ms owned rising =
    sets_paired p ms (target p (sets_of owned ms)) (length_target p (sets_of owned ms) ∙ length_sets owned ms) rising

pub assigned_retained : (ms : List ℕ) (owned : SetRows) → IsValidRows owned → IsStrictlyIncreasing ms → IsValidRows (assigned owned.partitions ms owned)
unfolding assigned
assigned_retained ms owned retained rising = record {
  some = retained.some;
  few = retained.few;
  rising = subst IsStrictlyIncreasing (sym (members_assigned owned.partitions ms owned)) rising;
  over = over_paired owned.partitions ms (target owned.partitions (sets_of owned ms)) (target_over owned.partitions (sets_of owned ms) (sets_over owned ms retained));
}

pairs_are : (rows : List (ℕ × PartitionSet)) → rows ≡ pair_up (map (λ row. row.0) rows) (map (λ row. row.1) rows)
pairs_are [] = refl
pairs_are (row ∷ rows) = ap (λ rs. row ∷ rs) (pairs_are rows)

length_seconds : (rows : List (ℕ × PartitionSet)) → length (map (λ row. row.1) rows) ≡ length (map (λ row. row.0) rows)
length_seconds [] = refl
length_seconds (row ∷ rows) = ap (λ n. suc n) (length_seconds rows)

pub sets_all : (r : SetRows) → IsStrictlyIncreasing (members r) → sets_of r (members r) ≡ map (λ row. row.1) r.rows
sets_all r rising =
    let seconds : List PartitionSet = map (λ row. row.1) r.rows in
    ap (λ rows. map (λ m. set_or_empty r.partitions (find_row rows m)) (members r)) (pairs_are r.rows)
    ∙ sets_paired r.partitions (members r) seconds (length_seconds r.rows) rising

pub paired : (r : SetRows) → IsStrictlyIncreasing (members r) → r ≡ record { partitions = r.partitions; rows = pair_up (members r) (sets_of r (members r)) }
paired r rising =
    ap (λ rows. record { partitions = r.partitions; rows = rows }) (pairs_are r.rows ∙ ap (λ sets. pair_up (members r) sets) (sym (sets_all r rising)))

pub target_paired : (p : ℕ) (ms : List ℕ) (rows : List PartitionSet) → length rows ≡ length ms → IsStrictlyIncreasing ms → target_rows (record { partitions = p; rows = pair_up ms rows }) ≡ record { partitions = p; rows = pair_up ms (target p rows) }
unfolding assigned
target_paired p ms rows len rising =
    ap (λ ns. assigned p ns (record { partitions = p; rows = pair_up ms rows })) (members_paired ms rows len)
    ∙ ap (λ sets. record { partitions = p; rows = pair_up ms (target p sets) }) (sets_paired p ms rows len rising)

pub quotas_are : (p : ℕ) (ms : List ℕ) (owned : SetRows) (ns ds qs : List ℕ) → owned.partitions ≡ p → ns ≡ sizes (sets_of owned ms) → ds ≡ ns → qs ≡ quotas_by p ds → qs ≡ quotas owned.partitions (sets_of owned ms)
quotas_are p ms owned ns ds qs below en ed e =
    e ∙ (ap (quotas_by p) (ed ∙ en) ∙ (quotas_by_is p (sets_of owned ms) ∙ ap (λ n. quotas n (sets_of owned ms)) (sym below)))

pub quotas_long : (p : ℕ) (ms : List ℕ) (owned : SetRows) (qs ns : List ℕ) → qs ≡ quotas p (sets_of owned ms) → ns ≡ qs → length ns ≡ length ms
quotas_long p ms owned qs ns e same = ap length (same ∙ e) ∙ length_quotas p (sets_of owned ms) ∙ length_sets owned ms

pub is_assigned : (p : ℕ) (ms : List ℕ) (owned : SetRows) (qs ns ks : List ℕ) (free : PartitionSet) (rows : SetRows) → owned.partitions ≡ p → qs ≡ quotas owned.partitions (sets_of owned ms) → ns ≡ qs → ks ≡ qs
    → free ≡ free_of owned.partitions (retaining ns (sets_of owned ms))
    → rows ≡ record { partitions = owned.partitions; rows = pair_up ms (filled free (gaps ks (retaining ks (sets_of owned ms))) (retaining ks (sets_of owned ms))) }
    → rows ≡ assigned p ms owned
unfolding assigned
is_assigned p ms owned qs ns ks free rows below eq en ek ef er =
    let sets : List PartitionSet = sets_of owned ms in
    let n : ns ≡ quotas owned.partitions sets = en ∙ eq in
    let k : ks ≡ quotas owned.partitions sets = ek ∙ eq in
    let f : free ≡ free_of owned.partitions (retaining (quotas owned.partitions sets) sets) = ef ∙ ap (λ xs. free_of owned.partitions (retaining xs sets)) n in
    er
    ∙ ap (λ xs. record { partitions = owned.partitions; rows = pair_up ms (filled free (gaps xs (retaining xs sets)) (retaining xs sets)) }) k
    ∙ ap (λ s. record { partitions = owned.partitions; rows = pair_up ms (filled s (gaps (quotas owned.partitions sets) (retaining (quotas owned.partitions sets) sets)) (retaining (quotas owned.partitions sets) sets)) }) f
    ∙ ap (λ t. record { partitions = owned.partitions; rows = pair_up ms t }) (filling_is_target owned.partitions sets)
    ∙ ap (λ m. record { partitions = m; rows = pair_up ms (target m sets) }) below

pub balanced_assigned : (p : ℕ) (ms : List ℕ) (owned : SetRows) → owned.partitions ≡ p → IsValidRows owned → 0 < length ms → IsStrictlyIncreasing ms → AreDisjoint (sets_of owned ms) → IsBalanced p (sets_of (assigned p ms owned) ms)
balanced_assigned p ms owned below retained some rising disjoint =
    let over : AreBelow p (sets_of owned ms) = subst (λ n. AreBelow n (sets_of owned ms)) below (sets_over owned ms retained) in
    let many : 0 < length (sets_of owned ms) = omega (arith, length_sets owned ms) in
    subst (IsBalanced p) (sym (sets_assigned p ms owned rising)) (is_balanced p (sets_of owned ms) many over disjoint)

pub most_assigned : (p : ℕ) (ms : List ℕ) (owned : SetRows) → owned.partitions ≡ p → IsValidRows owned → IsStrictlyIncreasing ms
    → RetainsMost p (sets_of owned ms) (sets_of (assigned p ms owned) ms)
most_assigned p ms owned below is rising others len over balanced =
    let mine : AreBelow p (sets_of owned ms) = subst (λ n. AreBelow n (sets_of owned ms)) below (sets_over owned ms is) in
    subst (λ rows. retained (sets_of owned ms) others ≤ retained (sets_of owned ms) rows) (sym (sets_assigned p ms owned rising)) (retains_most p (sets_of owned ms) others len mine over balanced)
