-- Who is a member, and under which name.
use Rattle.std.specs.Prelude.{◌≡◌, ◌≤◌, ⊤, ℕ, List, Some, length, true, false}
use Rattle.group_machine.specs.Settled.{is_settled}
use Rattle.group_machine.specs.State.{GroupState, is_present, name_of}
use Rattle.world.specs.declared.event.Event.{Event}
use Rattle.world.specs.declared.event.Event.TheVariants as event
use Rattle.world.specs.World.{WorldState}

-- no two present members have the same name
abbrev pub HaveDifferentNames : GroupState → Type 0
HaveDifferentNames g =
    (m n : ℕ) (name : List ℕ) → is_present g m ≡ true → is_present g n ≡ true
    → name_of g m ≡ Some name → name_of g n ≡ Some name → m ≡ n

-- a member number was given out, and its member is not present any more
abbrev pub IsOut : GroupState → ℕ → Type 0
IsOut g member = (member ≤ length g.slots) × (is_present g member ≡ false)

-- an event by which no member joins or leaves; one may take over the seat of another
abbrev pub KeepsMembers : Event → Type 0
KeepsMembers (event.Join name) = ⊥
KeepsMembers (event.JoinKept name) = ⊥
KeepsMembers (event.Leave member) = ⊥
KeepsMembers (event.Lose member) = ⊥
KeepsMembers event = ⊤

-- the group of a world is settled
abbrev pub IsSettled : WorldState → Type 0
IsSettled w = is_settled w.cluster.group ≡ true
