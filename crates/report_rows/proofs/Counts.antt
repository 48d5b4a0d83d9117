-- Counts by key number are the counts of the records' keys.
use Rattle.std.proofs.Common.{◌≡◌, ◌∙◌, ◌<◌, ℕ, List, [], length, map, sym, ap, arith}
use Rattle.std.proofs.lemmas.List.{get_or-map, get_or_default, length-map, same_lists}
use Rattle.partition_log.specs.Keys.{Keyed, distinct, key_at, keys_in, plain}
use Rattle.partition_log.specs.Logs.{IsValidLogs, AreLogsOf, PartitionLogs}
use Rattle.partition_log.proofs.Parted.{in_one_log}
use Rattle.report_rows.specs.CountRows.{AreCountsByNumber, counts_of}

pub counts-are : (records : List Keyed) (l : PartitionLogs) (counts : List ℕ) → IsValidLogs l → AreLogsOf records l → AreCountsByNumber l counts → counts ≡ counts_of (keys_in records)
unfolding counts_of
counts-are records l counts a h c =
    let keys = keys_in records in
    let numbers : l.keys ≡ distinct keys = h.numbers in
    let long : length counts ≡ length (map (plain keys) (distinct keys)) = c.one_each ∙ ap length numbers ∙ sym (length-map (distinct keys) (plain keys)) in
    same_lists counts (map (plain keys) (distinct keys)) long (λ n d lt.
    let numbered : n < length l.keys = omega (arith, lt, c.one_each) in
    let listed : n < length (distinct keys) = omega (arith, numbered, ap length numbers) in
    get_or_default counts n d 0 lt ∙ c.counted n numbered ∙ in_one_log records l (key_at l.keys n) a h
    ∙ ap (λ ks. plain keys (key_at ks n)) numbers ∙ sym (get_or-map (plain keys) (distinct keys) n [] d listed))
