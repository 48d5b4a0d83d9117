-- The first record that can't be appended.
use Rattle.std.specs.Prelude.{◌≡◌, ◌⊎◌, ℕ, ◌==◌, ⊤, List, [], ◌∷◌, ◌++◌, length, filter, if◌then◌else◌, nat_lt, Option, Some, None, Result, Ok, Err}
use Rattle.std.specs.Option.{option_or}
use Rattle.lane_words.specs.declared.Refusal.{Refusal}
use Rattle.lane_words.specs.declared.Refusal.TheVariants as r
use Rattle.lane_words.specs.declared.limits.TheConstants.{LONGEST_KEY}
use Rattle.partition_log.specs.Keys.{Keyed, distinct, keys_in}
use Rattle.partition_log.specs.Logs.{exceeds_limits}
use Rattle.ingest.specs.Records.{partition_of_record}

-- why an append was refused: for its key, or because an allocation failed
abbrev pub IsKeyFault : Refusal → Type 0
IsKeyFault r.KeyTooLong = ⊤
IsKeyFault r.LogFull = ⊤
IsKeyFault r.Memory = ⊤
IsKeyFault _ = ⊥

-- the number of these records in the same partition as this one, among topics with these numbers of
-- partitions
abbrev pub records_in_its_partition : List ℕ → List Keyed → Keyed → ℕ
records_in_its_partition counts records keyed =
    length (filter (λ other. partition_of_record counts other == partition_of_record counts keyed)
    records)

-- why a record can't be appended after these, if it can't: its key is too long, or its log or the
-- table of keys is full
abbrev pub record_fault : List ℕ → List Keyed → Keyed → Option Refusal
record_fault counts before keyed =
    if nat_lt LONGEST_KEY (length keyed.1) then Some r.KeyTooLong
    else if exceeds_limits (distinct (keys_in before))
    (records_in_its_partition counts before keyed) keyed.1
    then Some r.LogFull
    else None

-- the fault of the first of these records that can't be appended, after the records before
unfoldable pub first_fault : List ℕ → List Keyed → List Keyed → Option Refusal
first_fault counts before [] = None
first_fault counts before (keyed ∷ records) =
    option_or (record_fault counts before keyed)
    (first_fault counts (before ++ keyed ∷ []) records)

-- the fault if there is one, and otherwise the text
abbrev pub fault_or : Option Refusal → List ℕ → Result (List ℕ) Refusal
fault_or None text = Ok text
fault_or (Some fault) text = Err fault

-- the answer of appends of these records in order: all are accepted, or the first one that can't be
-- appended is refused, or an allocation failed
abbrev pub TakesRecords : {T : Type 0} → List ℕ → List Keyed → Result T Refusal → Type 0
TakesRecords counts records (Ok _) = first_fault counts [] records ≡ None
TakesRecords counts records (Err fault) =
    IsKeyFault fault × ((fault ≡ r.Memory) ⊎ (first_fault counts [] records ≡ Some fault))
