-- Settling a world: each member is brought to the end of the rebalance.
use Rattle.std.specs.Prelude.{ℕ, zero, suc, Bool, false, ◌||◌, length, is_ok, Result, Ok, Err, if◌then◌else◌}
use Rattle.std.specs.Option.{option_map_or}
use Rattle.lane_words.specs.declared.Refusal.{Refusal}
use Rattle.lane_words.specs.declared.Refusal.TheVariants as r
use Rattle.bit_planes.specs.PartitionSet.{elements, minus}
use Rattle.group_machine.specs.State.{assigned_of, granted_of, is_anybody, is_joined, is_synced, members}
use Rattle.group_machine.specs.NextSteps.{has_to_rejoin}
use Rattle.group_laws.specs.Passes.{is_settled_and_synced}
use Rattle.consumer.specs.Consumer.{sendable_answer}
use Rattle.world.specs.declared.event.Event.TheVariants as event
use Rattle.world.specs.Courses.{Course, answered_at_once, for_each, happens, nothing, chain}
use Rattle.world.specs.World.{WorldState, consumer_of}

-- ---- commits of what is pending
-- the consumer of a member holds a partition of which something is pending
abbrev pub is_pending : WorldState → ℕ → ℕ → Bool
is_pending w m p = option_map_or (λ c. is_ok (sendable_answer c p)) (consumer_of w m) false

-- what is pending of a partition is sent, and the commit, which is the last of the mail, delivered
unfoldable pub commit_pending : ℕ → ℕ → WorldState → Course
commit_pending m p w =
    if is_pending w m p
    then
    chain
    (happens (event.Send m p) w)
    (λ sent. happens (event.Deliver (length sent.mail)) sent)
    else nothing w

abbrev pub unless_mismatch : Result (Unit {0}) Refusal → Result (Unit {0}) Refusal
unless_mismatch (Err (r.OffsetMismatch committed)) = Ok tt
unless_mismatch answer = answer

-- another committed offset is no failure: it realigns the consumer
abbrev pub forgiven : Course → Course
forgiven c = record c { answer = unless_mismatch c.answer }

-- what is pending of a partition is committed; if the committed offset was another one, what is
-- left is committed once more
unfoldable pub flush : ℕ → ℕ → WorldState → Course
flush m p w = chain (forgiven (commit_pending m p w)) (commit_pending m p)

-- ---- a member's turn
unfoldable pub sync_if_new : ℕ → WorldState → Course
sync_if_new m w =
    if is_joined w.cluster.group m || is_synced w.cluster.group m
    then nothing w
    else happens (event.Sync m) w

-- a member that has to rejoin commits what is pending of what it gives up, and rejoins
unfoldable pub rejoin_if_due : ℕ → WorldState → Course
rejoin_if_due m w =
    if has_to_rejoin w.cluster.group m
    then
    chain
    (for_each (elements (minus (granted_of w.cluster.group m) (assigned_of w.cluster.group m)))
    (flush m) w)
    (happens (event.Rejoin m))
    else nothing w

-- a member that has neither joined nor synced syncs; then it rejoins if it has to
unfoldable pub turn : ℕ → WorldState → Course
turn m w = chain (sync_if_new m w) (rejoin_if_due m)

-- ---- passes
-- each present member takes a turn, in rising order of numbers
unfoldable pub pass : WorldState → Course
pass w = for_each (members w.cluster.group) turn w

-- passes until the group is settled and synced, at most n
unfoldable pub passes : ℕ → WorldState → Course
passes zero w =
    if is_settled_and_synced w.cluster.group then nothing w
    else answered_at_once (Err r.NotSettled) w
passes (suc n) w =
    if is_settled_and_synced w.cluster.group then nothing w else chain (pass w) (passes n)

-- a world settles in at most four passes; an empty group is refused
unfoldable pub settling : WorldState → Course
settling w =
    if is_anybody w.cluster.group then passes 4 w else answered_at_once (Err r.NobodyPresent) w
