-- Events that append records to partitions that are computed beforehand.
use Rattle.std.specs.Prelude.{◌≡◌, ℕ, ◌<◌, List, [], Result, length, slice_index_or}
use Rattle.std.specs.Borrow.{Bor}
use Rattle.lane_words.specs.declared.Refusal.{Refusal}
use Rattle.partition_log.specs.Keys.{Key, Keyed, of_first}
use Rattle.partition_log.specs.Logs.{IsOfTopic, PartitionLogs, place_in}
use Rattle.world.specs.declared.event.Event.{Event}
use Rattle.world.specs.declared.event.Event.TheVariants as event
use Rattle.world.specs.Runs.{Loads}
use Rattle.world.specs.World.{WorldState}

-- an event that appends this record
abbrev pub IsAppendOf : Event → Keyed → Type 0
IsAppendOf (event.Append key) keyed = keyed ≡ of_first key.now
IsAppendOf (event.AppendIn topic key) keyed = keyed ≡ (topic, key.now)
IsAppendOf event keyed = ⊥

-- an event that appends a record of this key to a topic in which its partition is `place`
abbrev pub IsAppendAt : PartitionLogs → Event → ℕ → Key → Type 0
IsAppendAt l event place key =
    (topic : ℕ) × IsAppendOf event (topic, key) × IsOfTopic l (topic, key)
    × (place_in l (topic, key) ≡ place)

-- an item of these events, and one of these keys; any item for an index past the last
abbrev pub event_at : List Event → ℕ → Event
event_at events i = slice_index_or events i (event.Sync 0)

abbrev pub key_at : List (Bor Key) → ℕ → Key
key_at keys i = (let key = slice_index_or keys i (record { ref_ptr = (0, 0); now = [] }) in key.now)

-- each of these events appends a record of one of these keys to its partition
pub record AreAppendsAt (l : PartitionLogs) (events : List Event) (places : List ℕ)
    (keys : List (Bor Key)) : Type 0 where
  pub events_each : length events ≡ length keys
  pub places_each : length places ≡ length keys
  pub each : (i : ℕ) → i < length keys
      → IsAppendAt l (event_at events i) (slice_index_or places i 0) (key_at keys i)

-- there are such events
abbrev pub ArePlaced : PartitionLogs → List ℕ → List (Bor Key) → Type 0
ArePlaced l places keys = (events : List Event) × AreAppendsAt l events places keys

-- a load by any such events
abbrev pub LoadsPlaced : WorldState → List ℕ → List (Bor Key) → Result (Unit {0}) (ℕ × Refusal)
    → WorldState → Type 0
LoadsPlaced w places keys result w2 =
    (events : List Event) → AreAppendsAt w.cluster.logs events places keys
    → Loads w events result w2
