-- A group's rows, and the look-up of one member.
use Rattle.std.proofs.Common.{ℕ, suc, ◌≡◌, ◌<◌, true, List, [], ◌∷◌, Option, Some, None, length, map, slice_get, refl, ap, sym, ◌∙◌, subst, arith}
use Rattle.std.specs.Option.{option_map}
use Rattle.bit_planes.specs.SetRows as rows
use Rattle.bit_planes.specs.PartitionSet.{PartitionSet, partitions_of, is_in}
use Rattle.bit_planes.specs.SetRows.{SetRows, set_or_empty, set_of, sets_of, IsValidRows, AreOver}
use Rattle.bit_planes.proofs.Sets.{partitions_empty}
use Rattle.sticky_assignor.specs.Balanced.{AreDisjoint}
use Rattle.coop_rebalance.specs.Rounds.{AreGranted}
use Rattle.group_machine.specs.declared.group.Slot.{Slot}
use Rattle.group_machine.specs.declared.group.Seat.{Seat}
use Rattle.group_machine.specs.Slots.{seat_in, and_member, present_from, present}
use Rattle.group_machine.specs.State.{GroupState, member_of, members, is_anybody, seat_granted, granted_of, granted_rows}
use Rattle.group_machine.specs.Valid.{IsSized, IsConsistentSeat, AreConsistentSeats, IsDisjoint}
use Rattle.group_machine.proofs.PresentLemmas.{RisesFrom, rising, present_rises, find_present, any_count}
use Rattle.group_machine.proofs.Rows.{disjoint_of}

pub numbers_of : (h : Seat → PartitionSet) (xs : List (ℕ × Seat)) → map {A = ℕ × PartitionSet} (λ row. row.0) (map (λ r. (r.0, h r.1)) xs) ≡ map (λ r. r.0) xs
numbers_of h [] = refl
numbers_of h (x ∷ xs) = ap (λ r. x.0 ∷ r) (numbers_of h xs)

pub members_granted : (g : GroupState) → rows.members (granted_rows g) ≡ members g
members_granted g = numbers_of (λ x. x.granted) (present g.slots)

granted_found : (p : ℕ) (o : Option Seat) → set_or_empty p (option_map (λ x. x.granted) o) ≡ seat_granted p o
granted_found p None = refl
granted_found p (Some x) = refl

pub set_granted : (g : GroupState) (m : ℕ) → set_of (granted_rows g) m ≡ granted_of g m
set_granted g m = ap (λ o. set_or_empty g.partitions o) (find_present (λ x. x.granted) g.slots m) ∙ granted_found g.partitions (member_of g m)

pub members_rise : (g : GroupState) → RisesFrom 1 (members g)
members_rise g = present_rises 1 g.slots

over_and : (p : ℕ) (h : Seat → PartitionSet) (m : ℕ) (o : Option Seat) (xs : List (ℕ × Seat)) → ((x : Seat) → o ≡ Some x → partitions_of (h x) ≡ p) → AreOver p (map (λ r. (r.0, h r.1)) xs) → AreOver p (map (λ r. (r.0, h r.1)) (and_member m o xs))
over_and p h m None xs here rest = rest
over_and p h m (Some x) xs here rest = (here x refl, rest)

pub over_from : (p : ℕ) (h : Seat → PartitionSet) (m : ℕ) (slots : List Slot) → ((k : ℕ) (x : Seat) → seat_in (slice_get slots k) ≡ Some x → partitions_of (h x) ≡ p) → AreOver p (map (λ r. (r.0, h r.1)) (present_from m slots))
over_from p h m [] each = tt
over_from p h m (s ∷ slots) each = over_and p h m s.seat (present_from (suc m) slots) (λ x is. each 0 x is) (over_from p h (suc m) slots (λ k x is. each (suc k) x is))

pub granted_rows_valid : (g : GroupState) → IsSized g → AreConsistentSeats g → IsValidRows (granted_rows g)
granted_rows_valid g sized consistent = record {
  some = sized.some_partitions;
  few = sized.few_partitions;
  rising = rising 1 (rows.members (granted_rows g)) (subst (RisesFrom 1) (sym (members_granted g)) (members_rise g));
  over = over_from g.partitions (λ x. x.granted) 1 g.slots (λ k x is. (consistent (suc k) x is).granted_below);
}

pub length_map : {A B : Type 0} (f : A → B) (xs : List A) → length (map f xs) ≡ length xs
length_map f [] = refl
length_map f (x ∷ xs) = ap (λ n. suc n) (length_map f xs)

pub rows_disjoint : (r : SetRows) → RisesFrom 1 (rows.members r) → ((m n q : ℕ) → is_in (set_of r m) q ≡ true → is_in (set_of r n) q ≡ true → m ≡ n) → AreDisjoint (sets_of r (rows.members r))
rows_disjoint r up alone = disjoint_of (set_of r) 1 (rows.members r) up alone

pub granted_owned : (g : GroupState) → IsSized g → AreConsistentSeats g → IsDisjoint g → is_anybody g ≡ true → AreGranted (granted_rows g)
granted_owned g sized consistent disjoint any = record {
  valid = granted_rows_valid g sized consistent;
  some = omega (arith, any_count g.slots any, length_map {B = ℕ × PartitionSet} (λ (m : ℕ × Seat). (m.0, m.1.granted)) (present g.slots));
  disjoint = rows_disjoint (granted_rows g) (subst (RisesFrom 1) (sym (members_granted g)) (members_rise g)) (λ m n q e h.
      disjoint m n q (ap (λ s. is_in s q) (sym (set_granted g m)) ∙ e) (ap (λ s. is_in s q) (sym (set_granted g n)) ∙ h));
}

pub granted_over : (g : GroupState) → AreConsistentSeats g → (m : ℕ) → partitions_of (granted_of g m) ≡ g.partitions
granted_over g consistent m = go (member_of g m) (λ x is. consistent m x is)
  where
    go : (o : Option Seat) → ((x : Seat) → o ≡ Some x → IsConsistentSeat g.partitions x) → partitions_of (seat_granted g.partitions o) ≡ g.partitions
    go None f = partitions_empty g.partitions
    go (Some x) f = (f x refl).granted_below
