-- Appends of several records, one after another.
use Rattle.std.specs.Prelude.{◌≡◌, ℕ, List, [], ◌∷◌, ◌++◌, IsOk, fold, map}
pub use Rattle.key_index.specs.Keys.{lent}
use Rattle.partition_log.specs.Keys.{Key, Keyed, of_first}
use Rattle.partition_log.specs.Logs.{AreLogsOf, IsOfTopic, PartitionLogs, answer_at, place_in, with_record_at}

-- records of the first topic
abbrev pub in_first : List Key → List Keyed
in_first keys = map of_first keys

-- a record's partition and its key
abbrev pub Placed : Type 0
Placed = ℕ × Key

-- records with their partitions
abbrev pub placed : PartitionLogs → List Keyed → List Placed
placed l records = map (λ keyed. (place_in l keyed, keyed.1)) records

-- the logs after these records were appended, one after another
unfoldable pub with_records : PartitionLogs → List Placed → PartitionLogs
with_records l records = fold (λ logs one. with_record_at logs one.0 one.1) l records

-- each of these records is accepted, appended one after another
abbrev pub AreAccepted : PartitionLogs → List Placed → Type 0
AreAccepted l [] = Unit {0}
AreAccepted l (one ∷ records) =
    IsOk (answer_at l one.0 one.1) × AreAccepted (with_record_at l one.0 one.1) records

-- all of these records were appended, one after another
abbrev pub AreAppended : PartitionLogs → List Placed → PartitionLogs → Type 0
AreAppended l records l2 = AreAccepted l records × (l2 ≡ with_records l records)

-- if the logs were those of a list of records, they are then those of the list with these at its
-- end
abbrev pub GrowByRecords : List Keyed → PartitionLogs → PartitionLogs → Type 0
GrowByRecords records old new =
    (appended : List Keyed) → AreLogsOf appended old → AreLogsOf (appended ++ records) new

-- the same for a record of this key, in each topic that assigns the key to this partition
abbrev pub GrowsByKeyAt : Key → ℕ → PartitionLogs → PartitionLogs → Type 0
GrowsByKeyAt key place old new = (topic : ℕ) → IsOfTopic old (topic, key)
    → place_in old (topic, key) ≡ place → GrowByRecords ((topic, key) ∷ []) old new
