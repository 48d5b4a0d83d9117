-- The rows of what the present members are assigned, and their next rows.
use Rattle.std.proofs.Common.{ℕ, suc, ◌≡◌, ◌≤◌, true, Option, Some, None, refl, ap, sym, ◌∙◌, subst, arith}
use Rattle.std.specs.Option.{option_map}
use Rattle.std.specs.Prelude.{IsTrue}
use Rattle.lane_words.specs.declared.limits.TheConstants.{MOST_PARTITIONS}
use Rattle.bit_planes.specs.SetRows as rows
use Rattle.bit_planes.specs.PartitionSet.{PartitionSet, is_in, is_within}
use Rattle.bit_planes.specs.SetRows.{set_or_empty, set_of, IsValidRows, SetRows}
use Rattle.bit_planes.proofs.Sets.{within_says}
use Rattle.coop_rebalance.specs.Rounds.{AreGranted, target_rows, next_rows, Settles}
use Rattle.coop_rebalance.proofs.Rounds.{settles}
use Rattle.group_machine.specs.declared.group.Seat.{Seat}
use Rattle.group_machine.specs.Slots.{present}
use Rattle.group_machine.specs.State.{GroupState, member_of, members, is_anybody, seat_granted, seat_assigned, granted_of, assigned_of}
use Rattle.group_machine.specs.Valid.{IsSized, IsConsistentSeat, AreConsistentSeats, IsDisjoint}
use Rattle.group_machine.proofs.PresentLemmas.{RisesFrom, rising, find_present, any_count}
use Rattle.group_machine.proofs.GroupLemmas.{numbers_of, members_rise, over_from, length_map, rows_disjoint}
use Rattle.group_laws.specs.Rounds.{assigned_rows}

pub members_assigned : (g : GroupState) → rows.members (assigned_rows g) ≡ members g
members_assigned g = numbers_of (λ x. x.assigned) (present g.slots)

assigned_found : (p : ℕ) (o : Option Seat) → set_or_empty p (option_map (λ x. x.assigned) o) ≡ seat_assigned p o
assigned_found p None = refl
assigned_found p (Some x) = refl

pub set_assigned : (g : GroupState) (m : ℕ) → set_of (assigned_rows g) m ≡ assigned_of g m
set_assigned g m = ap (λ o. set_or_empty g.partitions o) (find_present (λ x. x.assigned) g.slots m) ∙ assigned_found g.partitions (member_of g m)

abbrev pub HasPartitions : GroupState → Type 0
HasPartitions g = (1 ≤ g.partitions) × (g.partitions ≤ MOST_PARTITIONS)

pub has_partitions : (g : GroupState) → IsSized g → HasPartitions g
has_partitions g sized = (sized.some_partitions, sized.few_partitions)

assigned_rows_valid : (g : GroupState) → HasPartitions g → AreConsistentSeats g → IsValidRows (assigned_rows g)
assigned_rows_valid g has consistent = record {
  some = has.0;
  few = has.1;
  rising = rising 1 (rows.members (assigned_rows g)) (subst (RisesFrom 1) (sym (members_assigned g)) (members_rise g));
  over = over_from g.partitions (λ x. x.assigned) 1 g.slots (λ k x is. (consistent (suc k) x is).assigned_below);
}

granted_within : (p : ℕ) (o : Option Seat) → ((x : Seat) → o ≡ Some x → IsConsistentSeat p x) → (q : ℕ) → is_in (seat_assigned p o) q ≡ true → is_in (seat_granted p o) q ≡ true
granted_within p None consistent q e = e
granted_within p (Some x) consistent q e = within_says x.assigned x.granted ((consistent x refl).within) q e

pub assigned_in_granted : (g : GroupState) → AreConsistentSeats g → (m q : ℕ) → is_in (assigned_of g m) q ≡ true → is_in (granted_of g m) q ≡ true
assigned_in_granted g consistent m q e = granted_within g.partitions (member_of g m) (λ x is. consistent m x is) q e

pub assigned_owned : (g : GroupState) → HasPartitions g → AreConsistentSeats g → IsDisjoint g → is_anybody g ≡ true → AreGranted (assigned_rows g)
assigned_owned g has consistent disjoint any = record {
  valid = assigned_rows_valid g has consistent;
  some = omega (arith, any_count g.slots any, length_map {B = ℕ × PartitionSet} (λ (m : ℕ × Seat). (m.0, m.1.assigned)) (present g.slots));
  disjoint = rows_disjoint (assigned_rows g) (subst (RisesFrom 1) (sym (members_assigned g)) (members_rise g)) (λ m n q e h.
      disjoint m n q (assigned_in_granted g consistent m q (ap (λ s. is_in s q) (sym (set_assigned g m)) ∙ e)) (assigned_in_granted g consistent n q (ap (λ s. is_in s q) (sym (set_assigned g n)) ∙ h)));
}

second : (r : SetRows) → AreGranted r → Settles (next_rows r)
second r owned = settles r owned.valid owned.some owned.disjoint

pub second_all : (r : SetRows) → AreGranted r → next_rows (next_rows r) ≡ target_rows (next_rows r)
second_all r owned = (second r owned).all

pub second_within : (r : SetRows) → AreGranted r → (m : ℕ) → IsTrue (is_within (set_of (next_rows r) m) (set_of (target_rows (next_rows r)) m))
second_within r owned m = (second r owned).retained m
