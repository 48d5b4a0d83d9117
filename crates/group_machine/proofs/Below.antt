-- What the target and the withheld rows give each member.
use Rattle.std.proofs.Common.{ℕ, suc, ◌≡◌, ◌<◌, ◌≤◌, ◌==◌, Bool, true, false, ◌&&◌, ◌||◌, ◌⊎◌, inl, inr, not, List, [], ◌∷◌, map, cond, refl, ap, sym, ◌∙◌, subst, arith}
use Rattle.std.specs.Prelude.{Some}
use Rattle.std.proofs.lemmas.Bool.{false≢true}
use Rattle.bit_planes.specs.PartitionSet.{PartitionSet, is_in}
use Rattle.bit_planes.specs.SetRows.{SetRows, IsValidRows, members, find_row, set_or_empty, set_of, sets_of}
use Rattle.bit_planes.proofs.Sets.{both_true, same_set, in_empty}
use Rattle.sticky_assignor.specs.Balanced.{AreBelow, IsBalanced}
use Rattle.sticky_assignor.proofs.AssignedLaws.{members_assigned, assigned_retained, below_assigned}
use Rattle.coop_rebalance.specs.Rounds.{AreGranted, target_rows, next_rows, LiesInTarget}
use Rattle.coop_rebalance.specs.Withheld.{granted_to_other}
use Rattle.coop_rebalance.proofs.WithheldRows.{set_withheld}
use Rattle.coop_rebalance.proofs.Rounds.{next_within}
use Rattle.group_machine.proofs.SlotsLemmas.{number_is, same_id, other_id}
use Rattle.group_machine.proofs.PresentLemmas.{Listed, RisesFrom, rises}
use Rattle.group_machine.proofs.Rows.{disjoint_says, balanced_disjoint, member_listed, set_over, sets_below}

pub target_members : (r : SetRows) → members (target_rows r) ≡ members r
target_members r = members_assigned r.partitions (members r) r

pub target_rows_valid : (r : SetRows) → IsValidRows r → IsValidRows (target_rows r)
target_rows_valid r valid = assigned_retained (members r) r valid valid.rising

pub target_below : (r : SetRows) → (target_rows r).partitions ≡ r.partitions
target_below r = below_assigned r.partitions (members r) r

next_lies : (r : SetRows) → AreGranted r → LiesInTarget r (next_rows r)
next_lies r owned = next_within r owned.valid owned.some owned.disjoint

pub target_balanced : (r : SetRows) → AreGranted r → IsBalanced r.partitions (sets_of (target_rows r) (members r))
target_balanced r owned = (next_lies r owned).balanced

pub next_members : (r : SetRows) → AreGranted r → members (next_rows r) ≡ members r
next_members r owned = (next_lies r owned).same_members

pub next_below : (r : SetRows) → AreGranted r → (next_rows r).partitions ≡ r.partitions
next_below r owned = (next_lies r owned).below

pub next_rows_valid : (r : SetRows) → AreGranted r → IsValidRows (next_rows r)
next_rows_valid r owned = (next_lies r owned).valid

pub next_in : (r : SetRows) (m q : ℕ) → is_in (set_of (next_rows r) m) q ≡ (is_in (set_of (target_rows r) m) q && not (granted_to_other r.rows m q))
next_in r m q = set_withheld (target_rows r) r m q

listed_above : (m : ℕ) (ms : List ℕ) (n : ℕ) → RisesFrom m ms → Listed n ms → m ≤ n
listed_above m [] n up at = absurd at
listed_above m (x ∷ xs) n up (inl is) = omega (arith, up.0, is)
listed_above m (x ∷ xs) n up (inr at) = omega (arith, up.0, listed_above (suc x) xs n up.1 at)

pub or_either : (a b : Bool) → (a || b) ≡ true → (a ≡ true) ⊎ (b ≡ true)
or_either true b e = inl refl
or_either false b e = inr e

pub or_second : (a b : Bool) → b ≡ true → (a || b) ≡ true
or_second true b e = refl
or_second false b e = e

differs : (a b : ℕ) → not (a == b) ≡ true → b ≡ a → ⊥
differs a b e same = false≢true (sym (ap not (same_id a)) ∙ ap (λ n. not (a == n)) (sym same) ∙ e)

found_first : (p : ℕ) (row : ℕ × PartitionSet) (rows : List (ℕ × PartitionSet)) (q : ℕ) → is_in row.1 q ≡ true → is_in (set_or_empty p (find_row (row ∷ rows) row.0)) q ≡ true
found_first p row rows q e = rw (same_id row.0) e

found_later : (p : ℕ) (row : ℕ × PartitionSet) (rows : List (ℕ × PartitionSet)) (n q : ℕ) → row.0 < n → is_in (set_or_empty p (find_row rows n)) q ≡ true → is_in (set_or_empty p (find_row (row ∷ rows) n)) q ≡ true
found_later p row rows n q lt e = rw (other_id row.0 n (λ is. omega (arith, is, lt))) e

other_found : (p m0 : ℕ) (rows : List (ℕ × PartitionSet)) (m q : ℕ) → RisesFrom m0 (map (λ row. row.0) rows) → granted_to_other rows m q ≡ true → (n : ℕ) × (m ≡ n → ⊥) × (is_in (set_or_empty p (find_row rows n)) q ≡ true) × Listed n (map (λ row. row.0) rows)
other_found p m0 [] m q up e = absurd (false≢true e)
other_found p m0 (row ∷ rows) m q up e = elim (or_either (not (row.0 == m) && is_in row.1 q) (granted_to_other rows m q) e) [
  | inl h ↦ (let b = both_true (not (row.0 == m)) (is_in row.1 q) h in (row.0, differs row.0 m b.0, found_first p row rows q b.1, inl refl))
  | inr h ↦ (let o = other_found p (suc row.0) rows m q up.1 h in (o.0, o.1, found_later p row rows o.0 q (listed_above (suc row.0) (map (λ r. r.0) rows) o.0 up.1 o.3) o.2, inr o.3))
]

pub other_says : (r : SetRows) → IsValidRows r → (m q : ℕ) → granted_to_other r.rows m q ≡ true → (n : ℕ) × (m ≡ n → ⊥) × (is_in (set_of r n) q ≡ true)
other_says r valid m q e = let o = other_found r.partitions 0 r.rows m q (rises 0 (members r) (λ i lt. omega arith) valid.rising) e in (o.0, o.1, o.2)

found_other : (p : ℕ) (rows : List (ℕ × PartitionSet)) (m n q : ℕ) → (m ≡ n → ⊥) → is_in (set_or_empty p (find_row rows n)) q ≡ true → granted_to_other rows m q ≡ true
found_other p [] m n q ne e = absurd (false≢true (sym (in_empty p q) ∙ e))
found_other p (row ∷ rows) m n q ne e = go (λ h. found_other p rows m n q ne h) (row.0 == n) refl e
  where
    go : (is_in (set_or_empty p (find_row rows n)) q ≡ true → granted_to_other rows m q ≡ true) → (b : Bool) → (row.0 == n) ≡ b → is_in (set_or_empty p (cond b (Some row.1) (find_row rows n))) q ≡ true → ((not (row.0 == m) && is_in row.1 q) || granted_to_other rows m q) ≡ true
    go later true is h = rw (other_id row.0 m (λ same. ne (sym same ∙ number_is row.0 n is)), h) refl
    go later false is h = or_second (not (row.0 == m) && is_in row.1 q) (granted_to_other rows m q) (later h)

pub other_of : (r : SetRows) (m n q : ℕ) → (m ≡ n → ⊥) → is_in (set_of r n) q ≡ true → granted_to_other r.rows m q ≡ true
other_of r m n q ne e = found_other r.partitions r.rows m n q ne e

pub next_in_target : (r : SetRows) → (m q : ℕ) → is_in (set_of (next_rows r) m) q ≡ true → is_in (set_of (target_rows r) m) q ≡ true
next_in_target r m q e = (both_true (is_in (set_of (target_rows r) m) q) (not (granted_to_other r.rows m q)) (sym (next_in r m q) ∙ e)).0

true_not : (b : Bool) → not b ≡ true → b ≡ false
true_not true e = absurd (false≢true e)
true_not false e = refl

pub next_not_other : (r : SetRows) → (m n q : ℕ) → is_in (set_of (next_rows r) m) q ≡ true → is_in (set_of r n) q ≡ true → m ≡ n
next_not_other r m n q e h = go (m == n) refl
  where
    free : granted_to_other r.rows m q ≡ false
    free = true_not (granted_to_other r.rows m q) ((both_true (is_in (set_of (target_rows r) m) q) (not (granted_to_other r.rows m q)) (sym (next_in r m q) ∙ e)).1)

    go : (b : Bool) → (m == n) ≡ b → m ≡ n
    go true is = number_is m n is
    go false is = absurd (false≢true (sym free ∙ other_of r m n q (λ same. false≢true (sym is ∙ ap (λ k. m == k) (sym same) ∙ same_id m)) h))

pub target_disjoint : (r : SetRows) → AreGranted r → (m n q : ℕ) → is_in (set_of (target_rows r) m) q ≡ true → is_in (set_of (target_rows r) n) q ≡ true → m ≡ n
target_disjoint r owned m n q e h =
    let ms = members (target_rows r) in
    let same : ms ≡ members r = target_members r in
    let below : AreBelow r.partitions (sets_of (target_rows r) (members r)) = subst (λ (p : ℕ). AreBelow p (sets_of (target_rows r) (members r))) (target_below r) (sets_below (target_rows r) (members r) (target_rows_valid r owned.valid)) in
    disjoint_says (set_of (target_rows r)) (members r) (balanced_disjoint r.partitions (sets_of (target_rows r) (members r)) below (target_balanced r owned)) m n q (subst (Listed m) same (member_listed (target_rows r) m q e)) (subst (Listed n) same (member_listed (target_rows r) n q h)) e h

pub next_disjoint : (r : SetRows) → AreGranted r → (m n q : ℕ) → is_in (set_of (next_rows r) m) q ≡ true → is_in (set_of (next_rows r) n) q ≡ true → m ≡ n
next_disjoint r owned m n q e h = target_disjoint r owned m n q (next_in_target r m q e) (next_in_target r n q h)

pub next_is_target : (r : SetRows) → AreGranted r → ((m q : ℕ) → is_in (set_of r m) q ≡ true → is_in (set_of (next_rows r) m) q ≡ true) → (m : ℕ) → set_of (next_rows r) m ≡ set_of (target_rows r) m
next_is_target r owned stays m =
    same_set (set_of (next_rows r) m) (set_of (target_rows r) m) (set_over (next_rows r) m (next_rows_valid r owned) ∙ next_below r owned ∙ sym (set_over (target_rows r) m (target_rows_valid r owned.valid) ∙ target_below r)) (λ q lt.
    next_in r m q ∙ go q (is_in (set_of (target_rows r) m) q) refl (granted_to_other r.rows m q) refl)
  where
    go : (q : ℕ) (t : Bool) → is_in (set_of (target_rows r) m) q ≡ t → (o : Bool) → granted_to_other r.rows m q ≡ o → (is_in (set_of (target_rows r) m) q && not (granted_to_other r.rows m q)) ≡ is_in (set_of (target_rows r) m) q
    go q false e o h = rw e refl
    go q true e false h = rw (e, h) refl
    go q true e true h =
        let n = other_says r owned.valid m q h in
        absurd (n.1 (target_disjoint r owned m n.0 q e (next_in_target r n.0 q (stays n.0 q n.2))))
