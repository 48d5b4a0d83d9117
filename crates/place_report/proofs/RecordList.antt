-- Lists of the records that workers took, chunk by chunk.
use Rattle.std.proofs.Common.{◌≡◌, ◌∙◌, ◌+◌, ◌<◌, ◌≤◌, ℕ, Bool, false, List, [], ◌∷◌, ◌++◌, length, take, get_or, sym, ap, ap₂, refl, subst, arith, append_assoc}
use Rattle.std.specs.Prelude.{All, slice_range, zip}
use Rattle.std.specs.Borrow.{Bor}
use Rattle.std.proofs.lemmas.List.{append-nil, get_or-map, length-map, map-append, take_more}
use Rattle.std.proofs.lemmas.List.Concat.{flat_map-append}
use Rattle.key_counts.specs.Counts.{Entries, no_entries, records_of}
use Rattle.key_counts.specs.Recorded.{all_records, as_records}
use Rattle.key_counts.specs.Segments.{IsSegment, keys_in, keys_of}
use Rattle.key_counts.specs.declared.merging.Segment.{Segment}
use Rattle.key_counts.proofs.Parts.{slice-more, slice-none}
use Rattle.partitioner.specs.Place.{AreTopics}
use Rattle.partition_log.specs.Appends.{lent}
use Rattle.partition_log.specs.Keys as log
use Rattle.partition_log.specs.Keys.{Key, Keyed, key_at}
use Rattle.partition_log.specs.Taken.{record_taken, records_taken}
use Rattle.partition_log.specs.declared.taken.TakenRecords.{TakenRecords}
use Rattle.partition_log.proofs.EntryTables.{all-mapped}
use Rattle.place_report.specs.Private.RecordList.{AddsRecords, IsListOf, topics_in}
use Rattle.place_report.specs.declared.record_list.RecordList.{RecordList}

-- ---- one chunk
pub adds-none : (list : RecordList) (has_topics : Bool) (keys : List Key) (from : ℕ) → AddsRecords list list (records_taken has_topics (slice_range keys from from))
adds-none list has_topics keys from = λ before so.
    let same = ap (λ ks. before ++ records_taken has_topics ks) (slice-none keys from) ∙ append-nil before in
    subst (λ (records : List Keyed). IsListOf records list) (sym same) so

pub adds-one : (old mid new : RecordList) (has_topics : Bool) (entries : Entries) (from i topic : ℕ) (key : Bor Key) → from ≤ i → i < length entries.codes
    → (let next = record_taken has_topics (key_at entries.keys (get_or entries.codes i 0)) in
    topic ≡ next.0 → key.now ≡ next.1 → new.topics.items ≡ mid.topics.items ++ topic ∷ [] → new.keys.items ≡ mid.keys.items ++ key ∷ []
    → AddsRecords old mid (records_taken has_topics (slice_range (records_of entries) from i))
    → AddsRecords old new (records_taken has_topics (slice_range (records_of entries) from (i + 1))))
adds-one old mid new has_topics entries from i topic key le lt topic_is key_is topics_are keys_are adds = λ before so.
    let keys = records_of entries in
    let next = record_taken has_topics (key_at entries.keys (get_or entries.codes i 0)) in
    let done = records_taken has_topics (slice_range keys from i) in
    let was = adds before so in
    let at : get_or keys i [] ≡ key_at entries.keys (get_or entries.codes i 0) = get_or-map (key_at entries.keys) entries.codes i 0 [] lt in
    let in_keys : i < length keys = omega (arith, lt, length-map entries.codes (key_at entries.keys)) in
    let more : before ++ records_taken has_topics (slice_range keys from (i + 1)) ≡ (before ++ done) ++ next ∷ [] =
    ap (λ ks. before ++ records_taken has_topics ks) (slice-more keys from i [] le in_keys)
    ∙ ap (λ rs. before ++ rs) (map-append (record_taken has_topics) (slice_range keys from i) (get_or keys i [] ∷ []))
    ∙ ap (λ k. before ++ (done ++ record_taken has_topics k ∷ [])) at ∙ sym (append_assoc before done (next ∷ [])) in
    subst (λ (records : List Keyed). IsListOf records new) (sym more)
    (record {
      topics =
          topics_are ∙ ap₂ (λ ts t. ts ++ t ∷ []) was.topics topic_is
          ∙ sym (map-append (λ (keyed : Keyed). keyed.0) (before ++ done) (next ∷ []));
      keys =
          ap lent keys_are ∙ map-append (λ (k : Bor Key). k.now) mid.keys.items (key ∷ []) ∙ ap₂ (λ ks k. ks ++ k ∷ []) was.keys key_is
          ∙ sym (map-append (λ (keyed : Keyed). keyed.1) (before ++ done) (next ∷ []));
    })

-- ---- all chunks
-- the records of the first chunks
abbrev pub so_far : TakenRecords → ℕ → List Keyed
so_far taken i = records_taken taken.has_topics (keys_of (all_records taken.workers.now) (take i taken.chunks.now))

own-records : (workers : List Entries) (s : Segment) (d : Entries) → IsSegment (all_records workers) s → get_or (all_records workers) s.worker (no_entries false) ≡ as_records (get_or workers s.worker d)
own-records workers s d so =
    let among : s.worker < length workers = omega (arith, so.worker, length-map workers as_records) in
    get_or-map as_records workers s.worker d (no_entries false) among

pub adds-chunk : (taken : TakenRecords) (i : ℕ) (no_chunk : Segment) (d : Entries) (old new : RecordList) → i < length taken.chunks.now → All (IsSegment (all_records taken.workers.now)) taken.chunks.now
    → (let s = get_or taken.chunks.now i no_chunk in
    IsListOf (so_far taken i) old → AddsRecords old new (records_taken taken.has_topics (slice_range (records_of (get_or taken.workers.now s.worker d)) s.from s.to)) → IsListOf (so_far taken (i + 1)) new)
adds-chunk taken i no_chunk d old new lt parts so adds =
    let workers = taken.workers.now in
    let chunks = taken.chunks.now in
    let s = get_or chunks i no_chunk in
    let part = slice_range (records_of (get_or workers s.worker d)) s.from s.to in
    let own : keys_in (all_records workers) s ≡ part = ap (λ (e : Entries). slice_range e.keys s.from s.to) (own-records workers s d (parts i no_chunk lt)) in
    let before = keys_of (all_records workers) (take i chunks) in
    let more : keys_of (all_records workers) (take (i + 1) chunks) ≡ before ++ part =
    ap (keys_of (all_records workers)) (take_more chunks i no_chunk lt) ∙ flat_map-append (keys_in (all_records workers)) (take i chunks) (s ∷ [])
    ∙ ap (λ ks. before ++ ks) (append-nil (keys_in (all_records workers) s) ∙ own) in
    let is : so_far taken (i + 1) ≡ so_far taken i ++ records_taken taken.has_topics part = ap (records_taken taken.has_topics) more ∙ map-append (record_taken taken.has_topics) before part in
    subst (λ (records : List Keyed). IsListOf records new) (sym is) (adds (so_far taken i) so)

-- ---- what a list has
pub list-zip : (records : List Keyed) → zip (topics_in records) (log.keys_in records) ≡ records
list-zip [] = refl
list-zip ((topic, key) ∷ records) = ap (λ (rs : List Keyed). (topic, key) ∷ rs) (list-zip records)

pub list-topics : (count : ℕ) (records : List Keyed) (topics : List ℕ) (keys : List (Bor Key)) → All (λ keyed. keyed.0 < count) records → topics ≡ topics_in records → lent keys ≡ log.keys_in records → AreTopics count (length keys) topics
list-topics count records topics keys all topics_are keys_are = record {
  as_many =
      ap length topics_are ∙ length-map records (λ (keyed : Keyed). keyed.0) ∙ sym (length-map records (λ (keyed : Keyed). keyed.1))
      ∙ sym (ap length keys_are) ∙ length-map keys (λ (key : Bor Key). key.now);
  among = subst (All (λ topic. topic < count)) (sym topics_are) (all-mapped (λ topic. topic < count) (λ (keyed : Keyed). keyed.0) records all);
}
