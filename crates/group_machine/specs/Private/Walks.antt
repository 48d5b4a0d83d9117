-- What loops over slots and partitions require and do.
use Rattle.std.specs.Prelude.{◌≡◌, ℕ, List, Option, Some, None, slice_index_or, if◌then◌else◌}
use Rattle.bit_planes.specs.PartitionSet.{PartitionSet, partitions_of, is_in}
use Rattle.group_machine.specs.declared.group.Slot.{Slot}
use Rattle.group_machine.specs.declared.group.Seat.{Seat}
use Rattle.group_machine.specs.Slots.{seat_of}

-- a present member's sets are over the group's number of partitions
pub record IsSeatOver (partitions : ℕ) (seat : Seat) : Type 0 where
  pub granted : partitions_of seat.granted ≡ partitions
  pub assigned : partitions_of seat.assigned ≡ partitions

abbrev pub AreSeatsOver : ℕ → List Slot → Type 0
AreSeatsOver partitions slots =
    (member : ℕ) (seat : Seat) → seat_of slots member ≡ Some seat → IsSeatOver partitions seat

-- the taker of a partition, after a member has taken these
abbrev pub taken_by : ℕ → PartitionSet → List (Option ℕ) → ℕ → Option ℕ
taken_by member added takers q = if is_in added q then Some member else slice_index_or takers q None
