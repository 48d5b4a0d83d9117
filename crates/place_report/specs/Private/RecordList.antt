-- Records as lists of their topics and keys.
use Rattle.std.specs.Prelude.{◌≡◌, ℕ, List, ◌++◌, map}
use Rattle.partition_log.specs.Appends.{lent}
use Rattle.partition_log.specs.Keys.{Keyed, keys_in}
use Rattle.place_report.specs.declared.record_list.RecordList.{RecordList}

-- the topics of records
abbrev pub topics_in : List Keyed → List ℕ
topics_in records = map (λ keyed. keyed.0) records

-- these are the records of a list
pub record IsListOf (records : List Keyed) (list : RecordList) : Type 0 where
  pub topics : list.topics.items ≡ topics_in records
  pub keys : lent list.keys.items ≡ keys_in records

-- these records were added to a list
abbrev pub AddsRecords : RecordList → RecordList → List Keyed → Type 0
AddsRecords old new records =
    (before : List Keyed) → IsListOf before old → IsListOf (before ++ records) new
