-- The rows of logs are those of the records that were appended.
use Rattle.std.proofs.Common.{◌≡◌, ◌∙◌, ◌+◌, ◌<◌, ◌≤◌, ℕ, zero, suc, List, [], ◌∷◌, ◌++◌, length, map, take, get_or, add-one, sym, ap, refl, arith, append_assoc}
use Rattle.std.specs.Prelude.{flat_map}
use Rattle.std.specs.List.{sum}
use Rattle.std.proofs.lemmas.List.{append-nil, length-map, take_all, take_more}
use Rattle.partition_log.specs.Keys.{Key, Keyed, distinct, key_at, keys_in, plain}
use Rattle.partition_log.specs.Logs.{AreLogsOf, IsValidLogs, PartitionLogs, keys_of_log, place_in, place_in_topic}
use Rattle.partition_log.proofs.Valid.{place-below}
use Rattle.partitioner.specs.declared.topic.Topic.{Topic}
use Rattle.report_rows.specs.ReplayRows.{rows_below}
use Rattle.place_report.specs.PlaceRows.{key_header, key_row, key_rows, key_table, keys_at, partition_header, partition_row, partition_table}
use Rattle.place_report.specs.Private.KeyCounts.{all_key_rows, rows_of_key}
use Rattle.place_report.specs.Private.Tallies.{partition_rows}

same_rows : (n : ℕ) (f g : ℕ → List ℕ) → ((p : ℕ) → p < n → f p ≡ g p) → rows_below n f ≡ rows_below n g
same_rows zero f g same = refl
same_rows (suc n) f g same =
    ap (λ text. text ++ f n) (same_rows n f g (λ p lt. same p (omega (arith, lt)))) ∙ ap (λ row. rows_below n g ++ row) (same n (omega arith))

flat_map-append : (f : Key → List ℕ) (xs ys : List Key) → flat_map f (xs ++ ys) ≡ flat_map f xs ++ flat_map f ys
flat_map-append f [] ys = refl
flat_map-append f (x ∷ xs) ys = ap (λ text. f x ++ text) (flat_map-append f xs ys) ∙ sym (append_assoc (f x) (flat_map f xs) (flat_map f ys))

rows_of_first : (f : Key → List ℕ) (keys : List Key) (n : ℕ) → n ≤ length keys → rows_below n (λ i. f (key_at keys i)) ≡ flat_map f (take n keys)
rows_of_first f keys zero le = refl
rows_of_first f keys (suc n) le =
    let lt : n < length keys = omega (arith, le) in
    let last : flat_map f (key_at keys n ∷ []) ≡ f (key_at keys n) = append-nil (f (key_at keys n)) in
    let more : take (suc n) keys ≡ take n keys ++ key_at keys n ∷ [] = ap (λ m. take m keys) (sym (add-one n)) ∙ take_more keys n [] lt in
    ap (λ text. text ++ f (key_at keys n)) (rows_of_first f keys n (omega (arith, le))) ∙ ap (λ row. flat_map f (take n keys) ++ row) (sym last)
    ∙ sym (flat_map-append f (take n keys) (key_at keys n ∷ [])) ∙ ap (flat_map f) (sym more)

rows_of_keys : (f : Key → List ℕ) (keys : List Key) → rows_below (length keys) (λ i. f (key_at keys i)) ≡ flat_map f keys
rows_of_keys f keys = rows_of_first f keys (length keys) (omega arith) ∙ ap (flat_map f) (take_all (length keys) keys (omega arith))

-- the keys of a log are those of the records that go there
keys_there : (counts : List ℕ) (records : List Keyed) (l : PartitionLogs) (p : ℕ) → l.counts ≡ counts → AreLogsOf records l → p < l.partitions → keys_of_log l p ≡ keys_at counts records p
keys_there counts records l p same h lt = h.records p lt ∙ ap (λ cs. keys_at cs records p) same

pub partition_table_is : (topics : List Topic) (counts : List ℕ) (records : List Keyed) (l : PartitionLogs) → l.counts ≡ counts → IsValidLogs l → AreLogsOf records l
    → partition_header topics ++ partition_rows topics l ≡ partition_table topics counts records
partition_table_is topics counts records l same a h =
    let f = λ (p : ℕ). partition_row topics p (keys_at counts records p) in
    ap (λ text. partition_header topics ++ text)
    (same_rows l.partitions (λ p. partition_row topics p (keys_of_log l p)) f (λ p lt. ap (partition_row topics p) (keys_there counts records l p same h lt))
    ∙ ap (λ n. rows_below n f) (a.in_all ∙ ap sum same))

key_rows_are : (topics : List Topic) (counts : List ℕ) (records : List Keyed) (l : PartitionLogs) (n : ℕ) → l.counts ≡ counts → IsValidLogs l → AreLogsOf records l
    → rows_of_key topics l n ≡ key_rows topics counts records (key_at l.keys n)
key_rows_are topics counts records l n same a h =
    let key = key_at l.keys n in
    same_rows (length l.counts) (λ t. key_row topics key (place_in l (t, key)) (plain (keys_of_log l (place_in l (t, key))) key))
    (λ t. key_row topics key (place_in l (t, key)) (plain (keys_at counts records (place_in l (t, key))) key))
    (λ t lt. ap (λ keys. key_row topics key (place_in l (t, key)) (plain keys key)) (keys_there counts records l (place_in l (t, key)) same h (place-below l (t, key) a lt)))
    ∙ ap (λ cs. rows_below (length cs) (λ t. key_row topics key (place_in_topic cs t key) (plain (keys_at counts records (place_in_topic cs t key)) key))) same

pub key_table_is : (topics : List Topic) (counts : List ℕ) (records : List Keyed) (l : PartitionLogs) → l.counts ≡ counts → IsValidLogs l → AreLogsOf records l
    → key_header topics ++ all_key_rows topics l ≡ key_table topics counts records
key_table_is topics counts records l same a h =
    let f = key_rows topics counts records in
    ap (λ text. key_header topics ++ text)
    (same_rows (length l.keys) (rows_of_key topics l) (λ n. f (key_at l.keys n)) (λ n lt. key_rows_are topics counts records l n same a h)
    ∙ rows_of_keys f l.keys ∙ ap (flat_map f) h.numbers)
