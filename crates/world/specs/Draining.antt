-- Draining a world: it settles, and each member reads and commits its logs to their ends.
use Rattle.std.specs.Prelude.{ℕ, zero, suc, ◌==◌, Bool, false, length, if◌then◌else◌}
use Rattle.std.specs.Option.{option_map_or}
use Rattle.bit_planes.specs.PartitionSet.{PartitionSet, elements, empty_set, set_where}
use Rattle.partition_log.specs.Logs.{log_at}
use Rattle.group_machine.specs.State.{members}
use Rattle.consumer.specs.Consumer.{base_of, is_held}
use Rattle.world.specs.declared.event.Event.TheVariants as event
use Rattle.world.specs.Courses.{Course, chain, for_each, happens, nothing}
use Rattle.world.specs.Settling.{commit_pending, forgiven, settling}
use Rattle.world.specs.World.{WorldState, consumer_of}

-- the partitions that a member's consumer holds
unfoldable pub held_by : WorldState → ℕ → PartitionSet
held_by w m =
    option_map_or
    (λ c. set_where w.cluster.group.partitions (is_held c))
    (consumer_of w m)
    (empty_set w.cluster.group.partitions)

-- a log is committed to its end, as far as a member's consumer has learnt
abbrev pub is_read_up : WorldState → ℕ → ℕ → Bool
is_read_up w m p =
    option_map_or (λ c. base_of c p == length (log_at w.cluster.logs p)) (consumer_of w m) false

-- one poll of a partition, and the commit of what is pending then; another committed offset
-- realigns the consumer
unfoldable pub read_on : ℕ → ℕ → ℕ → WorldState → Course
read_on batch m p w =
    chain (happens (event.Poll m p batch) w) (λ read. forgiven (commit_pending m p read))

-- the same until the log is committed to its end, at most n times
unfoldable pub read_up : ℕ → ℕ → ℕ → ℕ → WorldState → Course
read_up zero batch m p w = nothing w
read_up (suc n) batch m p w =
    if is_read_up w m p then nothing w else chain (read_on batch m p w) (read_up n batch m p)

-- a log is read to its end: each time commits at least one more record, so the length of the log is
-- a bound
unfoldable pub drain_log : ℕ → ℕ → ℕ → WorldState → Course
drain_log batch m p w = read_up (length (log_at w.cluster.logs p)) batch m p w

-- each partition that a member's consumer holds, in rising order
unfoldable pub drain_member : ℕ → ℕ → WorldState → Course
drain_member batch m w = for_each (elements (held_by w m)) (drain_log batch m) w

-- the partitions of each present member, in rising order of numbers
unfoldable pub drain_members : ℕ → WorldState → Course
drain_members batch w = for_each (members w.cluster.group) (drain_member batch) w

-- the world settles, and then its members read and commit their partitions to the end
unfoldable pub draining : ℕ → WorldState → Course
draining batch w = chain (settling w) (drain_members batch)
