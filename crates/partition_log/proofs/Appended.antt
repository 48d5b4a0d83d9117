-- What appends of several records leave.
use Rattle.std.proofs.Common.{◌≡◌, ℕ, List, [], ◌∷◌, ◌++◌, map, append_assoc, refl, sym, ap, subst}
use Rattle.std.specs.Prelude.{All}
use Rattle.std.specs.Borrow.{Bor}
use Rattle.std.specs.List.{zip}
use Rattle.std.proofs.lemmas.List.{append-nil}
use Rattle.std.proofs.lemmas.List.Elements.{All-head, All-tail}
use Rattle.partition_log.specs.Keys.{Key, Keyed}
use Rattle.partition_log.specs.Logs.{AreLogsOf, IsOfTopic, IsPlaceOf, IsValidLogs, PartitionLogs, place_in, with_record}
use Rattle.partition_log.specs.Appends.{AreAccepted, AreAppended, GrowByRecords, lent, placed, with_records}
use Rattle.partition_log.proofs.History.{history}
use Rattle.partition_log.proofs.Valid.{accepted-parts, goes-below, valid}

pub stay-valid : (l : PartitionLogs) (records : List Keyed) → IsValidLogs l → All (IsOfTopic l) records → AreAccepted l (placed l records) → IsValidLogs (with_records l (placed l records)) × GrowByRecords records l (with_records l (placed l records))
unfolding with_records
stay-valid l [] a topics all = (a, λ appended h. subst (λ ks. AreLogsOf ks l) (sym (append-nil appended)) h)
stay-valid l (keyed ∷ records) a topics all =
    let topic = All-head (IsOfTopic l) keyed records topics in
    let goes : IsPlaceOf l keyed.1 (place_in l keyed) = (keyed.0, topic, refl) in
    let fit = accepted-parts l (place_in l keyed) keyed.1 all.0 in
    let next : IsValidLogs (with_record l keyed) = valid l (place_in l keyed) keyed.1 a goes (goes-below l keyed.1 (place_in l keyed) a goes) fit.0 fit.1 in
    let rest = stay-valid (with_record l keyed) records next (All-tail (IsOfTopic l) keyed records topics) all.1 in (
      rest.0,
      λ appended h.
          subst (λ ks. AreLogsOf ks (with_records (with_record l keyed) (placed l records))) (append_assoc appended (keyed ∷ []) records)
          (rest.1 (appended ++ keyed ∷ []) (history l keyed appended a h topic)),
    )

pub topics-placed : (l : PartitionLogs) (topics : List ℕ) (keys : List (Bor Key)) → map (λ (keyed : ℕ × Bor Key). place_in l (keyed.0, keyed.1.now)) (zip topics keys) ≡ map (place_in l) (zip topics (lent keys))
topics-placed l [] keys = refl
topics-placed l (t ∷ topics) [] = refl
topics-placed l (t ∷ topics) (key ∷ keys) = ap (λ ps. place_in l (t, key.now) ∷ ps) (topics-placed l topics keys)

-- logs of a list of records are then those of the list with these at its end
pub grow : (l l2 : PartitionLogs) (records : List Keyed) → IsValidLogs l → All (IsOfTopic l) records → AreAppended l (placed l records) l2 → GrowByRecords records l l2
grow l l2 records a topics done = subst (λ (w : PartitionLogs). GrowByRecords records l w) (sym done.1) (stay-valid l records a topics done.0).1
