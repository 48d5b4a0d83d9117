-- The view of an iterator over members: the numbers that are left.
use Rattle.std.specs.Prelude.{ℕ, ◌+◌, ◌≤◌, List, map, drop, length}
use Rattle.lane_words.specs.declared.limits.TheConstants.{MOST_MEMBERS}
use Rattle.group_machine.specs.Slots.{present_from}
use Rattle.group_machine.specs.declared.group.members.Members.TheInside.{Inside}

-- the present members of the slots that are not visited yet
abbrev pub members_left : Inside → List ℕ
members_left a = map (λ m. m.0) (present_from (a.index + 1) (drop a.index a.slots.now))

abbrev pub IsValidMembers : Inside → Type 0
IsValidMembers a = length a.slots.now ≤ MOST_MEMBERS
