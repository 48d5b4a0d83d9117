-- The appends of a file's records, and the first record that can't be appended.
use Rattle.std.proofs.Common.{◌≡◌, ◌∙◌, ℕ, List, [], ◌∷◌, ◌++◌, map, sym, refl}
use Rattle.std.specs.Prelude.{All, IsOk, Option, None, Some, Result, Ok, Err}
use Rattle.std.specs.Option.{option_or}
use Rattle.std.proofs.lemmas.List.Elements.{All-head, All-tail}
use Rattle.lane_words.specs.declared.Refusal.{Refusal}
use Rattle.partition_log.specs.Appends.{AreAccepted, Placed, placed}
use Rattle.partition_log.specs.Keys.{Keyed}
use Rattle.partition_log.specs.Logs.{AreCounts, AreLogsOf, IsOfTopic, IsValidLogs, PartitionLogs, append_answer, place_in, with_record}
use Rattle.partition_log.proofs.History.{history}
use Rattle.partition_log.proofs.Valid.{accepted-parts, empty-valid, place-below, valid}
use Rattle.ingest.specs.RecordFaults.{first_fault, record_fault}
use Rattle.ingest.specs.Records.{AreOfTopics, empty_logs}
use Rattle.ingest.proofs.Faulted.{fault_in, first_fault-later, record_fault-is}

abbrev at_partition : PartitionLogs → Keyed → Placed
at_partition l keyed = (place_in l keyed, keyed.1)

valid_with : (l : PartitionLogs) (keyed : Keyed) → IsValidLogs l → IsOfTopic l keyed → IsOk (append_answer l keyed) → IsValidLogs (with_record l keyed)
valid_with l keyed v topic ok =
    let place = place_in l keyed in
    let fit = accepted-parts l place keyed.1 ok in
    valid l place keyed.1 v (keyed.0, topic, refl) (place-below l keyed v topic) fit.0 fit.1

okay : {T : Type 0} (answer : Result T Refusal) → fault_in answer ≡ None → IsOk answer
okay (Ok v) none = refl
okay (Err fault) none = absurd (cc none)

no-fault-now : (counts : List ℕ) (before : List Keyed) (keyed : Keyed) (records : List Keyed) → first_fault counts before (keyed ∷ records) ≡ None → record_fault counts before keyed ≡ None
unfolding first_fault
no-fault-now counts before keyed records none = first-none (record_fault counts before keyed) (first_fault counts (before ++ keyed ∷ []) records) none
  where
    first-none : (a b : Option Refusal) → option_or a b ≡ None → a ≡ None
    first-none None b is = refl
    first-none (Some x) b is = absurd (cc is)

-- records of which none is refused are accepted, one after another
pub accepted-from : (counts : List ℕ) (before : List Keyed) (l : PartitionLogs) (records : List Keyed) → IsValidLogs l → AreLogsOf before l → l.counts ≡ counts → All (IsOfTopic l) records
    → first_fault counts before records ≡ None → AreAccepted l (map (at_partition l) records)
accepted-from counts before l [] v h same topics none = tt
accepted-from counts before l (keyed ∷ records) v h same topics none =
    let topic = All-head (IsOfTopic l) keyed records topics in
    let fine : record_fault counts before keyed ≡ None = no-fault-now counts before keyed records none in
    let ok : IsOk (append_answer l keyed) = okay (append_answer l keyed) (record_fault-is counts l before keyed v h same topic ∙ fine) in (
      ok,
      accepted-from counts (before ++ keyed ∷ []) (with_record l keyed) records (valid_with l keyed v topic ok) (history l keyed before v h topic) same (All-tail (IsOfTopic l) keyed records topics)
          (sym (first_fault-later counts before keyed records fine) ∙ none),
    )

pub accepted-empty : (counts : List ℕ) (records : List Keyed) → AreCounts counts → AreOfTopics counts records → first_fault counts [] records ≡ None
    → AreAccepted (empty_logs counts) (placed (empty_logs counts) records)
accepted-empty counts records all topics none =
    let empty = empty-valid counts all in
    accepted-from counts [] (empty_logs counts) records empty.0 empty.1 refl topics none

pub none-then : (found : Option Refusal) → ((fault : Refusal) → found ≡ Some fault → ⊥) → found ≡ None
none-then None none = refl
none-then (Some fault) none = absurd (none fault refl)
