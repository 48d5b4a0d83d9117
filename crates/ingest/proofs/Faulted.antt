-- The first record that can't be appended, by the answers of the logs.
use Rattle.std.proofs.Common.{◌≡◌, ◌∙◌, ℕ, Bool, true, false, List, [], ◌∷◌, ◌++◌, length, sym, ap, refl}
use Rattle.std.specs.Prelude.{◌==◌, if◌then◌else◌, filter, nat_lt, Option, Some, None, Result, Ok, Err, IsOk}
use Rattle.lane_words.specs.declared.limits.TheConstants.{LONGEST_KEY}
use Rattle.lane_words.specs.declared.Refusal.{Refusal}
use Rattle.lane_words.specs.declared.Refusal.TheVariants as r
use Rattle.partition_log.specs.Keys.{Keyed}
use Rattle.partition_log.specs.Logs.{AreLogsOf, IsOfTopic, IsValidLogs, PartitionLogs, append_answer, exceeds_limits, log_at, place_in}
use Rattle.partition_log.proofs.Valid.{place-below}
use Rattle.ingest.specs.RecordFaults.{first_fault, record_fault, records_in_its_partition}
use Rattle.ingest.specs.Records.{partition_of_record}
use Rattle.ingest.proofs.Placed.{log-long, partition-is}

abbrev pub fault_in : {T : Type 0} → Result T Refusal → Option Refusal
fault_in (Ok v) = None
fault_in (Err fault) = Some fault

by_cases : {T : Type 0} (a b : Bool) (v : T) → fault_in (if a then Err r.KeyTooLong else if b then Err r.LogFull else Ok v) ≡ (if a then Some r.KeyTooLong else if b then Some r.LogFull else None)
by_cases true b v = refl
by_cases false true v = refl
by_cases false false v = refl

-- the answer of an append to the logs of these records has the record's fault
pub record_fault-is : (counts : List ℕ) (l : PartitionLogs) (before : List Keyed) (keyed : Keyed) → IsValidLogs l → AreLogsOf before l → l.counts ≡ counts → IsOfTopic l keyed
    → fault_in (append_answer l keyed) ≡ record_fault counts before keyed
record_fault-is counts l before keyed a h same topic =
    let place = place_in l keyed in
    let key = keyed.1 in
    let records : length (log_at l place) ≡ records_in_its_partition counts before keyed =
    log-long l counts before place same h (place-below l keyed a topic) ∙ ap (λ p. length (filter (λ other. partition_of_record counts other == p) before)) (partition-is l counts keyed same) in
    by_cases (nat_lt LONGEST_KEY (length key)) (exceeds_limits l.keys (length (log_at l place)) key) _
    ∙ ap (λ m. if nat_lt LONGEST_KEY (length key) then Some r.KeyTooLong else if exceeds_limits l.keys m key then Some r.LogFull else None) records
    ∙ ap (λ keys. if nat_lt LONGEST_KEY (length key) then Some r.KeyTooLong else if exceeds_limits keys (records_in_its_partition counts before keyed) key then Some r.LogFull else None) h.numbers

pub first_fault-later : (counts : List ℕ) (before : List Keyed) (keyed : Keyed) (records : List Keyed) → record_fault counts before keyed ≡ None
    → first_fault counts before (keyed ∷ records) ≡ first_fault counts (before ++ keyed ∷ []) records
unfolding first_fault
first_fault-later counts before keyed records h = rw h refl

none_in : {T : Type 0} (answer : Result T Refusal) → IsOk answer → fault_in answer ≡ None
none_in (Ok v) h = refl
none_in (Err fault) h = absurd (cc h)

pub taken : (counts : List ℕ) (l : PartitionLogs) (before : List Keyed) (keyed : Keyed) → IsValidLogs l → AreLogsOf before l → l.counts ≡ counts → IsOfTopic l keyed → IsOk (append_answer l keyed) → record_fault counts before keyed ≡ None
taken counts l before keyed a h same topic ok = sym (record_fault-is counts l before keyed a h same topic) ∙ none_in (append_answer l keyed) ok

pub refused : (counts : List ℕ) (l : PartitionLogs) (before : List Keyed) (keyed : Keyed) (fault : Refusal) → IsValidLogs l → AreLogsOf before l → l.counts ≡ counts → IsOfTopic l keyed → append_answer l keyed ≡ Err fault
    → record_fault counts before keyed ≡ Some fault
refused counts l before keyed fault a h same topic e = sym (record_fault-is counts l before keyed a h same topic) ∙ ap fault_in e
