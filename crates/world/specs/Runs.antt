-- Schedules: events one after the other.
use Rattle.std.specs.Prelude.{◌≡◌, ◌⊎◌, ◌≤◌, ℕ, List, [], ◌∷◌, ◌++◌, Result, Ok, Err, length, map, replicate, take, drop}
use Rattle.std.specs.List.{zip}
use Rattle.std.specs.Borrow.{Bor}
use Rattle.lane_words.specs.declared.Refusal.{Refusal}
use Rattle.lane_words.specs.declared.Refusal.TheVariants as r
use Rattle.partition_log.specs.Keys.{Key, Keyed, of_first}
use Rattle.partition_log.specs.Logs.{PartitionLogs}
use Rattle.group_machine.specs.Cluster.{AreLogsOf, GrowByRecords}
use Rattle.group_machine.specs.State.{opening}
use Rattle.world.specs.declared.event.Event.{Event}
use Rattle.world.specs.declared.event.Event.TheVariants as event
use Rattle.world.specs.declared.event.Reply.{Reply}
use Rattle.world.specs.declared.event.Reply.TheVariants as reply
use Rattle.world.specs.Steps.{Step}
use Rattle.world.specs.World.{WorldState}

-- a world of this many partitions, over all topics, before its first event
pub record IsOpening (partitions : ℕ) (w : WorldState) : Type 0 where
  pub group : w.cluster.group ≡ opening partitions
  pub logs : AreLogsOf [] w.cluster.logs
  pub counts : w.cluster.store.counts ≡ []
  pub capacity : w.cluster.store.capacity ≡ 0
  pub consumers : w.consumers ≡ []
  pub mail : w.mail ≡ []

-- the world over these logs before its first event
unfoldable pub world_over : PartitionLogs → WorldState
world_over l = record {
  cluster = record {
    group = opening l.partitions;
    logs = l;
    store = record {
      offsets = replicate l.partitions 0;
      counts = replicate (length l.keys) 0;
      capacity = 0;
    };
  };
  consumers = [];
  mail = [];
}

-- a schedule, the replies to its events, and the world after it
abbrev pub Run : WorldState → List Event → List Reply → WorldState → Type 0
Run w [] [] w2 = w2 ≡ w
Run w [] (reply ∷ replies) w2 = ⊥
Run w (event ∷ events) [] w2 = ⊥
Run w (event ∷ events) (reply ∷ replies) w2 =
    (mid : WorldState) × Step w event reply mid × Run mid events replies w2

-- ---- what was appended
abbrev pub if_appended : Keyed → Reply → List Keyed
if_appended keyed (reply.Appended p offset) = keyed ∷ []
if_appended keyed reply = []

-- the record that an event appended, by its reply
abbrev pub appended_by : Event → Reply → List Keyed
appended_by (event.Append key) reply = if_appended (of_first key.now) reply
appended_by (event.AppendIn topic key) reply = if_appended (topic, key.now) reply
appended_by event reply = []

-- the records that a schedule appended, by the replies
abbrev pub appended_in : List Event → List Reply → List Keyed
appended_in [] replies = []
appended_in (event ∷ events) [] = []
appended_in (event ∷ events) (reply ∷ replies) =
    appended_by event reply ++ appended_in events replies

-- the logs grow by these records, in order
abbrev pub AppendsRecords : List Keyed → WorldState → WorldState → Type 0
AppendsRecords records w w2 = GrowByRecords records w.cluster.logs w2.cluster.logs

-- ---- loading
-- the events that append a record of each key, in order
abbrev pub appends_of : List (Bor Key) → List Event
appends_of keys = map (λ key. event.Append key) keys

-- the events that append a record of each key to its topic, in order
abbrev pub appends_in : List ℕ → List (Bor Key) → List Event
appends_in topics keys = map (λ keyed. event.AppendIn keyed.0 keyed.1) (zip topics keys)

abbrev pub AreAppended : List Reply → Type 0
AreAppended [] = Unit {0}
AreAppended (reply.Appended p offset ∷ replies) = AreAppended replies
AreAppended (reply ∷ replies) = ⊥

-- each of these events appended its record, one after the other
abbrev pub Appends : WorldState → List Event → WorldState → Type 0
Appends w events w2 = (replies : List Reply) × Run w events replies w2 × AreAppended replies

-- the first of these events is refused
abbrev pub IsRefusedNext : WorldState → List Event → Refusal → Type 0
IsRefusedNext w [] why = ⊥
IsRefusedNext w (event ∷ events) why = Step w event (reply.Refused why) w

-- why a load stopped after n records: the next record was refused, or memory for the partitions of
-- the keys ran out before the first
abbrev pub StopsLoad : WorldState → List Event → ℕ → Refusal → Type 0
StopsLoad w rest n why = IsRefusedNext w rest why ⊎ ((n ≡ 0) × (why ≡ r.Memory))

-- a load of records by the events that append them: all are appended; or those before the first
-- that is refused, whose number is returned
abbrev pub Loads : WorldState → List Event → Result (Unit {0}) (ℕ × Refusal) → WorldState → Type 0
Loads w events (Ok _) w2 = Appends w events w2
Loads w events (Err stop) w2 =
    (stop.0 ≤ length events) × Appends w (take stop.0 events) w2
    × StopsLoad w2 (drop stop.0 events) stop.0 stop.1
