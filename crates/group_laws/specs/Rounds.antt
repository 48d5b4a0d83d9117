-- The result of a rebalance, by rounds.
use Rattle.std.specs.Prelude.{◌≡◌, ℕ, map, true, false, if◌then◌else◌}
use Rattle.bit_planes.specs.SetRows.{SetRows}
use Rattle.group_machine.specs.declared.group.Seat.{Seat}
use Rattle.group_machine.specs.State.{GroupState, is_anybody}
use Rattle.group_machine.specs.Valid.{IsSized, IsDisjoint, AreConsistentSeats}
use Rattle.group_machine.specs.Slots.{present, each_changed}
use Rattle.group_machine.specs.Completion.{complete}
use Rattle.group_machine.specs.Settled.{is_settled}

-- the part of the invariant that rounds need, and a member
pub record IsSound (g : GroupState) : Type 0 where
  pub anybody : is_anybody g ≡ true
  pub sized : IsSized g
  pub disjoint : IsDisjoint g
  pub consistent : AreConsistentSeats g

-- what each present member is assigned
abbrev pub assigned_rows : GroupState → SetRows
assigned_rows g = record {
  partitions = g.partitions;
  rows = map (λ m. (m.0, m.1.assigned)) (present g.slots);
}

abbrev pub seat_without_flags : Seat → Seat
seat_without_flags seat = record seat { joined = false; synced = false }

-- the group with all flags cleared
abbrev pub without_flags : GroupState → GroupState
without_flags g = record g { slots = each_changed (λ m. seat_without_flags) g.slots }

abbrev pub revoked_seat : Seat → Seat
revoked_seat seat = record seat { joined = false; synced = false; granted = seat.assigned }

-- the group after each member has revoked what it is not assigned
abbrev pub after_revocation : GroupState → GroupState
after_revocation g = record g { slots = each_changed (λ m. revoked_seat) g.slots }

-- one round: all members revoke, then one completion
abbrev pub round : GroupState → GroupState
round g = complete (after_revocation g)

-- the group in which a rebalance ends, whatever the order of its calls, without flags: the group
-- itself if nobody is present or it is settled, else the group after one round if that is settled,
-- else after two
abbrev pub rebalance_result : GroupState → GroupState
rebalance_result g =
    if is_anybody g
    then
    (if is_settled g then without_flags g
    else if is_settled (round g) then round g
    else round (round g))
    else without_flags g

-- the generation in which a rebalance ends
abbrev pub final_generation : GroupState → ℕ
final_generation g = (rebalance_result g).generation
