-- What entries have, and what records have by the codes of their entries.
use Rattle.std.proofs.Common.{◌≡◌, ◌∙◌, ◌-◌, ◌<◌, ℕ, zero, suc, Bool, true, false, Bor, List, [], ◌∷◌, ◌++◌, Vec, length, map, take, vec_items, drop, get_or, replicate, sym, ap, ap₂, refl, subst, arith}
use Rattle.std.specs.Prelude.{◌==◌, All, flat_map, if◌then◌else◌, slice_range}
use Rattle.std.specs.Global.{Global}
use Rattle.std.specs.List.{fold, sum, zip}
use Rattle.std.proofs.lemmas.List.{drop_at, get_or-map, length-map, map-append, take_at}
use Rattle.std.proofs.lemmas.List.Elements.{All-cons, All-drop, All-head, All-nil, All-push, All-tail, All-take}
use Rattle.key_counts.specs.Counts.{AreInterned, Entries, no_entries, records_of}
use Rattle.key_counts.specs.Recorded.{all_records, as_records}
use Rattle.key_counts.specs.Rounds.{AreKnown}
use Rattle.key_counts.specs.Segments.{IsSegment, entries_of, keys_of, segments_of}
use Rattle.key_counts.specs.Segments as segments
use Rattle.key_counts.specs.declared.merging.Segment.{Segment}
use Rattle.key_counts.proofs.Segmented.{same-firsts}
use Rattle.key_counts.proofs.Totals.{length-slice}
use Rattle.key_counts.specs.Private.TakingLaws.{added-interned}
use Rattle.key_index.proofs.Growth.{among, interned}
use Rattle.key_index.proofs.Scattered.{slice-map}
use Rattle.key_index.proofs.ShardRecords.{lent-long}
use Rattle.partitioner.specs.Place.{AreTopics}
use Rattle.partition_log.specs.Appends.{AreAccepted, AreAppended, GrowByRecords, lent, placed, with_records}
use Rattle.partition_log.specs.Keys.{Key, Keyed, distinct, id_of, is_interned, key_at, keys_in, with_key}
use Rattle.partition_log.specs.Logs.{AreLogsOf, IsOfTopic, IsValidLogs, PartitionLogs, place_in}
use Rattle.partition_log.specs.Private.Filled.{filled}
use Rattle.partition_log.specs.Private.Shares.{AreTables, by_codes, read_all, read_chunk, table_of}
use Rattle.partition_log.specs.Private.Tables.{AreTablesOf, AreWithin, entry_keys, key_taken, number_taken, own_values, place_taken, topic_taken}
use Rattle.partition_log.specs.Taken.{AreTaken, empty_logs, keys_taken, record_taken, records_taken, taken_records}
use Rattle.partition_log.specs.declared.shares.Tables.{Tables}
use Rattle.partition_log.specs.declared.taken.TakenRecords.{TakenRecords}
use Rattle.partition_log.proofs.Appended.{grow, stay-valid, topics-placed}
use Rattle.partition_log.proofs.ParallelAppends.{appended-whole, key_of, no-records, place_at}
use Rattle.partition_log.proofs.Valid.{place-below}

-- ---- the entries of one worker
own-first : (b : Bool) (f : Key → ℕ) (workers : List Entries) (s : Segment) (own : List Segment)
    → (if b then map f (segments.keys_in workers s) else []) ++ map f (keys_of workers own) ≡ map f (keys_of workers (if b then s ∷ own else own))
own-first true f workers s own = sym (map-append f (segments.keys_in workers s) (keys_of workers own))
own-first false f workers s own = refl

pub own-values : (f : Key → ℕ) (w : ℕ) (workers : List Entries) (all : List Segment) → All (IsSegment workers) all
    → own_values w all (map f (keys_of workers all)) ≡ map f (keys_of workers (segments_of w all))
own-values f w workers [] parts = refl
own-values f w workers (s ∷ more) parts =
    let so : IsSegment workers s = All-head (IsSegment workers) s more parts in
    let here = segments.keys_in workers s in
    let rest = keys_of workers more in
    let entries = s.to - s.from in
    let long : length (map f here) ≡ entries = length-map here f ∙ length-slice (entries_of workers s.worker).keys s.from s.to so.order so.within in
    ap (λ xs. (if s.worker == w then take entries xs else []) ++ own_values w more (drop entries xs)) (map-append f here rest)
    ∙ ap₂ (λ xs ys. (if s.worker == w then xs else []) ++ own_values w more ys) (take_at (map f here) (map f rest) entries long) (drop_at (map f here) (map f rest) entries long)
    ∙ ap (λ ys. (if s.worker == w then map f here else []) ++ ys) (own-values f w workers more (All-tail (IsSegment workers) s more parts))
    ∙ own-first (s.worker == w) f workers s (segments_of w more)

table-read : (tables : List (Vec ℕ Global)) (w : ℕ) (own : List ℕ) → w < length tables → ((d : Vec ℕ Global) → (get_or tables w d).items ≡ own) → table_of tables w ≡ own
table-read [] w own lt is = absurd (omega (arith, lt))
table-read (table ∷ tables) w own lt is = get_or-map vec_items (table ∷ tables) w table [] lt ∙ is table

pub tables-of : (f : Key → ℕ) (taken : TakenRecords) (all : List ℕ) (tables : List (Vec ℕ Global)) → AreTaken taken → length tables ≡ length taken.workers.now
    → ((w : ℕ) (d : Vec ℕ Global) → w < length taken.workers.now → (get_or tables w d).items ≡ own_values w taken.segments.now all) → all ≡ map f (entry_keys taken)
    → AreTablesOf f taken.workers.now tables
tables-of f taken all tables so many each is = record {
  many = many;
  each = λ w lt.
      table-read tables w (own_values w taken.segments.now all) (omega (arith, lt, many)) (λ d. each w d lt)
      ∙ ap (own_values w taken.segments.now) is ∙ own-values f w taken.workers.now taken.segments.now so.parts.parts
      ∙ ap (map f) (so.parts.own w lt);
}

-- ---- what holds for the keys of records holds for those of entries
all-added : (P : Key → Type 0) (keys added : List Key) → All P keys → All P added → All P (fold with_key keys added)
all-added P keys [] old new = old
all-added P keys (key ∷ added) old new =
    all-added P (with_key keys key) added (one (is_interned keys key)) (All-tail P key added new)
  where
    one : (b : Bool) → All P (if b then keys else keys ++ key ∷ [])
    one true = old
    one false = All-push P keys key old (All-head P key added new)

pub all-distinct : (P : Key → Type 0) (keys : List Key) → All P keys → All P (distinct keys)
unfolding distinct
all-distinct P keys all = all-added P [] keys (All-nil P) all

pub all-interned : (P : Key → Type 0) (keys some : List Key) → All P keys → AreInterned some keys → All P some
all-interned P keys some all known = λ i d lt.
    let key = get_or some i d in
    let there = interned keys key (known i d lt) in
    subst P there.1 (all (id_of keys key) [] there.0)

distinct-known : (keys : List Key) → AreInterned keys (distinct keys)
unfolding distinct
distinct-known keys = λ i d lt. added-interned [] keys (get_or keys i d) (among keys (get_or keys i d) i lt (get-any keys i d lt))
  where
    get-any : (keys : List Key) (i : ℕ) (d : Key) → i < length keys → key_at keys i ≡ get_or keys i d
    get-any [] i d lt = absurd (omega (arith, lt))
    get-any (key ∷ keys) zero d lt = refl
    get-any (key ∷ keys) (suc i) d lt = get-any keys i d (omega (arith, lt))

pub all-same_order : (P : Key → Type 0) (taken order : List Key) → distinct order ≡ distinct taken → All P taken → All P order
all-same_order P taken order same all = all-interned P (distinct order) order (subst (All P) (sym same) (all-distinct P taken all)) (distinct-known order)

pub all-of_worker : (P : Key → Type 0) (taken : List Key) (workers : List Entries) (w : ℕ) → AreKnown (distinct taken) workers → All P taken → w < length workers → All P (entries_of workers w).keys
all-of_worker P taken [] w known all lt = absurd (omega (arith, lt))
all-of_worker P taken (worker ∷ workers) zero known all lt = all-interned P (distinct taken) worker.keys (all-distinct P taken all) known.0
all-of_worker P taken (worker ∷ workers) (suc w) known all lt = all-of_worker P taken workers w known.1 all (omega (arith, lt))

pub all-mapped : {X Y : Type 0} (P : Y → Type 0) (f : X → Y) (xs : List X) → All (λ x. P (f x)) xs → All P (map f xs)
all-mapped P f [] all = All-nil P
all-mapped P f (x ∷ xs) all = All-cons P (f x) (map f xs) (All-head (λ y. P (f y)) x xs all) (all-mapped P f xs (All-tail (λ y. P (f y)) x xs all))

pub all-unmapped : {X Y : Type 0} (P : Y → Type 0) (f : X → Y) (xs : List X) → All P (map f xs) → All (λ x. P (f x)) xs
all-unmapped P f [] all = All-nil (λ x. P (f x))
all-unmapped P f (x ∷ xs) all = All-cons (λ y. P (f y)) x xs (All-head P (f x) (map f xs) all) (all-unmapped P f xs (All-tail P (f x) (map f xs) all))

-- each entry is of one of the topics, as each record is
pub entries-topics : (l : PartitionLogs) (taken : TakenRecords) → AreTaken taken → All (IsOfTopic l) (taken_records taken) → All (IsOfTopic l) (records_taken taken.has_topics (entry_keys taken))
entries-topics l taken so topics =
    let P : Key → Type 0 = λ key. IsOfTopic l (record_taken taken.has_topics key) in
    all-mapped (IsOfTopic l) (record_taken taken.has_topics) (entry_keys taken)
    (all-same_order P (keys_taken taken) (entry_keys taken) so.so.same_order (all-unmapped (IsOfTopic l) (record_taken taken.has_topics) (keys_taken taken) topics))

-- ---- keys and topics of entries
map-twice : {X Y Z : Type 0} (f : X → Y) (g : Y → Z) (xs : List X) → map g (map f xs) ≡ map (λ x. g (f x)) xs
map-twice f g [] = refl
map-twice f g (x ∷ xs) = ap (λ ys. g (f x) ∷ ys) (map-twice f g xs)

map-agree : {X Y : Type 0} (f g : X → Y) (xs : List X) → ((x : X) → f x ≡ g x) → map f xs ≡ map g xs
map-agree f g [] same = refl
map-agree f g (x ∷ xs) same = ap₂ (λ y ys. y ∷ ys) (same x) (map-agree f g xs same)

map-same : {X : Type 0} (xs : List X) → map (λ x. x) xs ≡ xs
map-same [] = refl
map-same (x ∷ xs) = ap (λ ys. x ∷ ys) (map-same xs)

pub key-of_record : (has_topics : Bool) (key : Key) → (record_taken has_topics key).1 ≡ key_taken has_topics key
key-of_record true key = refl
key-of_record false key = refl

pub none-left : (keys : List Key) → map (key_taken false) keys ≡ keys
none-left keys = map-same keys

pub all-first : (keys : List Key) → replicate (length keys) 0 ≡ map (topic_taken false) keys
all-first [] = refl
all-first (key ∷ keys) = ap (λ (ts : List ℕ). 0 ∷ ts) (all-first keys)

zip-records : (has_topics : Bool) (keys : List Key) → zip (map (topic_taken has_topics) keys) (map (key_taken has_topics) keys) ≡ map (record_taken has_topics) keys
zip-records has_topics [] = refl
zip-records true (key ∷ keys) = ap (λ rs. record_taken true key ∷ rs) (zip-records true keys)
zip-records false (key ∷ keys) = ap (λ rs. record_taken false key ∷ rs) (zip-records false keys)

pub entry-places : (l : PartitionLogs) (has_topics : Bool) (keys : List (Bor Key)) (topics : List ℕ) (all : List Key) → lent keys ≡ map (key_taken has_topics) all → topics ≡ map (topic_taken has_topics) all
    → map (λ (keyed : ℕ × Bor Key). place_in l (keyed.0, keyed.1.now)) (zip topics keys) ≡ map (place_taken l has_topics) all
entry-places l has_topics keys topics all is topics_are =
    topics-placed l topics keys ∙ ap₂ (λ ts ks. map (place_in l) (zip ts ks)) topics_are is ∙ ap (map (place_in l)) (zip-records has_topics all)
    ∙ map-twice (record_taken has_topics) (place_in l) all

one-topic : (l : PartitionLogs) (has_topics : Bool) (key : Key) → IsOfTopic l (record_taken has_topics key) → topic_taken has_topics key < length l.counts
one-topic l true key is = is
one-topic l false key is = is

pub entry-topics : (l : PartitionLogs) (taken : TakenRecords) (keys : List (Bor Key)) (topics : List ℕ) → AreTaken taken → All (IsOfTopic l) (taken_records taken)
    → lent keys ≡ map (key_taken taken.has_topics) (entry_keys taken) → topics ≡ map (topic_taken taken.has_topics) (entry_keys taken) → AreTopics (length l.counts) (length keys) topics
entry-topics l taken keys topics so of_topics is topics_are =
    let h = taken.has_topics in
    let all = entry_keys taken in
    let each = all-unmapped (IsOfTopic l) (record_taken h) all (entries-topics l taken so of_topics) in
    record {
      as_many = ap length topics_are ∙ length-map all (topic_taken h) ∙ sym (sym (lent-long keys) ∙ ap length is ∙ length-map all (key_taken h));
      among = subst (All (λ topic. topic < length l.counts)) (sym topics_are) (all-mapped (λ topic. topic < length l.counts) (topic_taken h) all (λ i d lt. one-topic l h (get_or all i d) (each i d lt)));
    }

-- ---- records by codes
codes-in : (f : Key → ℕ) (keys : List Key) (codes : List ℕ) → All (λ code. code < length keys) codes → by_codes (map f keys) codes ≡ map f (map (key_at keys) codes)
codes-in f keys [] within = refl
codes-in f keys (code ∷ codes) within =
    ap₂ (λ n ns. n ∷ ns) (get_or-map f keys code [] 0 (All-head (λ c. c < length keys) code codes within)) (codes-in f keys codes (All-tail (λ c. c < length keys) code codes within))

records-at : (workers : List Entries) (w : ℕ) → (entries_of (all_records workers) w).keys ≡ records_of (entries_of workers w)
records-at [] w = refl
records-at (worker ∷ workers) zero = refl
records-at (worker ∷ workers) (suc w) = records-at workers w

read-chunk : (f : Key → ℕ) (workers : List Entries) (tables : List (Vec ℕ Global)) (s : Segment) → AreTablesOf f workers tables → AreWithin workers → IsSegment (all_records workers) s
    → read_chunk tables workers s ≡ map f (segments.keys_in (all_records workers) s)
read-chunk f workers tables s have within so =
    let w = s.worker in
    let lt : w < length workers = omega (arith, so.worker, length-map workers as_records) in
    let its = entries_of workers w in
    let part = slice_range its.codes s.from s.to in
    let all : All (λ code. code < length its.keys) its.codes = within w (no_entries false) lt in
    let below : All (λ code. code < length its.keys) part =
    All-take (λ code. code < length its.keys) (s.to - s.from) (drop s.from its.codes) (All-drop (λ code. code < length its.keys) s.from its.codes all) in
    ap (λ own. by_codes own part) (have.each w lt) ∙ codes-in f its.keys part below
    ∙ ap (map f) (slice-map (key_at its.keys) its.codes s.from s.to ∙ ap (λ (ks : List Key). slice_range ks s.from s.to) (sym (records-at workers w)))

read-chunks : (f : Key → ℕ) (workers : List Entries) (tables : List (Vec ℕ Global)) (chunks : List Segment) → AreTablesOf f workers tables → AreWithin workers → All (IsSegment (all_records workers)) chunks
    → flat_map (read_chunk tables workers) chunks ≡ map f (keys_of (all_records workers) chunks)
read-chunks f workers tables [] have within so = refl
read-chunks f workers tables (s ∷ chunks) have within so =
    ap₂ (λ xs ys. xs ++ ys) (read-chunk f workers tables s have within (All-head (IsSegment (all_records workers)) s chunks so))
    (read-chunks f workers tables chunks have within (All-tail (IsSegment (all_records workers)) s chunks so))
    ∙ sym (map-append f (segments.keys_in (all_records workers) s) (keys_of (all_records workers) chunks))

-- what each record has, read from the entry of its key
pub read-taken : (f : Key → ℕ) (taken : TakenRecords) (tables : List (Vec ℕ Global)) → AreTaken taken → AreWithin taken.workers.now → AreTablesOf f taken.workers.now tables
    → read_all tables taken ≡ map f (keys_taken taken)
read-taken f taken tables so within have = read-chunks f taken.workers.now tables taken.chunks.now have within so.chunks

pub are-tables : (l : PartitionLogs) (taken : TakenRecords) (tables : Tables) (count : ℕ) → IsValidLogs l → count ≡ l.partitions → AreTaken taken → All (IsOfTopic l) (taken_records taken)
    → AreTablesOf (place_taken l taken.has_topics) taken.workers.now tables.places.items → AreTablesOf (number_taken taken) taken.workers.now tables.numbers.items
    → AreTables count taken.workers.now tables
are-tables l taken tables count valid counted so topics places numbers =
    let workers = taken.workers.now in
    let place : Key → ℕ = place_taken l taken.has_topics in
    let its : ℕ → List Key = λ w. (entries_of workers w).keys in
    let of_topic = all-unmapped (IsOfTopic l) (record_taken taken.has_topics) (keys_taken taken) topics in
    let all : All (λ key. place key < count) (keys_taken taken) = λ i d lt. rw counted (place-below l (record_taken taken.has_topics (get_or (keys_taken taken) i d)) valid (of_topic i d lt)) in
    record {
      placed = λ w lt. ap length (places.each w lt) ∙ length-map (its w) place;
      numbered = λ w lt. ap length (numbers.each w lt) ∙ length-map (its w) (number_taken taken);
      below = λ w lt.
          subst (All (λ p. p < count)) (sym (places.each w lt))
          (all-mapped (λ p. p < count) place (its w) (all-of_worker (λ key. place key < count) (keys_taken taken) workers w so.so.known all lt));
      places_many = places.many;
      numbers_many = numbers.many;
    }

-- ---- the keys of the records
pub keys-of_records : (has_topics : Bool) (keys : List Key) → keys_in (records_taken has_topics keys) ≡ map (key_taken has_topics) keys
keys-of_records has_topics keys =
    map-twice (record_taken has_topics) (λ keyed. keyed.1) keys ∙ map-agree (λ key. (record_taken has_topics key).1) (key_taken has_topics) keys (key-of_record has_topics)

-- those of the entries come in the order of those of the records
pub entries-distinct : (taken : TakenRecords) → AreTaken taken → distinct (map (key_taken taken.has_topics) (entry_keys taken)) ≡ distinct (keys_in (taken_records taken))
entries-distinct taken so =
    same-firsts (key_taken taken.has_topics) (entry_keys taken) (keys_taken taken) so.so.same_order
    ∙ ap distinct (sym (keys-of_records taken.has_topics (keys_taken taken)))

pub entries-numbered : (taken : TakenRecords) → AreTaken taken
    → (let keys = map (key_taken taken.has_topics) (entry_keys taken) in map (id_of (distinct keys)) keys ≡ map (number_taken taken) (entry_keys taken))
entries-numbered taken so =
    let keys = map (key_taken taken.has_topics) (entry_keys taken) in
    ap (λ ks. map (id_of ks) keys) (entries-distinct taken so)
    ∙ map-twice (key_taken taken.has_topics) (id_of (distinct (keys_in (taken_records taken)))) (entry_keys taken)

-- ---- the whole
placed-keys : (l : PartitionLogs) (records : List Keyed) → map key_of (placed l records) ≡ keys_in records
placed-keys l records = map-twice (λ (keyed : Keyed). (place_in l keyed, keyed.1)) key_of records

placed-places : (l : PartitionLogs) (records : List Keyed) → map place_at (placed l records) ≡ map (place_in l) records
placed-places l records = map-twice (λ (keyed : Keyed). (place_in l keyed, keyed.1)) place_at records

pub filled-whole : (l : PartitionLogs) (taken : TakenRecords) (tables : Tables) (count : ℕ) (all : List Key) (logs : List (List ℕ)) → IsValidLogs l → l.keys ≡ [] → count ≡ l.partitions → AreTaken taken
    → AreWithin taken.workers.now → AreTablesOf (place_taken l taken.has_topics) taken.workers.now tables.places.items → AreTablesOf (number_taken taken) taken.workers.now tables.numbers.items
    → all ≡ distinct (keys_in (taken_records taken)) → logs ≡ filled (replicate count []) (read_all tables.places.items taken) (read_all tables.numbers.items taken)
    → (let new : PartitionLogs = record { counts = l.counts; partitions = l.partitions; keys = all; logs = logs } in new ≡ with_records l (placed l (taken_records taken)))
filled-whole l taken tables count all logs valid none counted so within places numbers is are =
    let h = taken.has_topics in
    let keys = keys_taken taken in
    let records = taken_records taken in
    let nothing : List (List ℕ) = replicate l.partitions [] in
    let at : read_all tables.places.items taken ≡ map place_at (placed l records) =
    read-taken (place_taken l h) taken tables.places.items so within places ∙ sym (placed-places l records ∙ map-twice (record_taken h) (place_in l) keys) in
    let ids : read_all tables.numbers.items taken ≡ map (id_of all) (map key_of (placed l records)) =
    read-taken (number_taken taken) taken tables.numbers.items so within numbers
    ∙ sym (map-twice (key_taken h) (id_of (distinct (keys_in records))) keys)
    ∙ ap (map (id_of (distinct (keys_in records)))) (sym (keys-of_records h keys) ∙ sym (placed-keys l records))
    ∙ ap (λ ks. map (id_of ks) (map key_of (placed l records))) (sym is) in
    appended-whole l (placed l records) all logs valid none (is ∙ ap distinct (sym (placed-keys l records)))
    (are ∙ ap (λ n. filled (replicate n []) (read_all tables.places.items taken) (read_all tables.numbers.items taken)) counted ∙ ap₂ (filled nothing) at ids)

-- these records were appended, and the new logs are valid
pub record HaveAppended (taken : TakenRecords) (old new : PartitionLogs) : Type 0 where
  pub appended : AreAppended old (placed old (taken_records taken)) new
  pub history : GrowByRecords (taken_records taken) old new
  pub valid : IsValidLogs new

pub filled-taken : (old l : PartitionLogs) (taken : TakenRecords) (tables : Tables) (count : ℕ) (all : List Key) (logs : List (List ℕ)) → l ≡ old → IsValidLogs old → old.keys ≡ [] → count ≡ old.partitions → AreTaken taken
    → AreWithin taken.workers.now → AreTablesOf (place_taken old taken.has_topics) taken.workers.now tables.places.items → AreTablesOf (number_taken taken) taken.workers.now tables.numbers.items
    → all ≡ distinct (keys_in (taken_records taken)) → logs ≡ filled (replicate count []) (read_all tables.places.items taken) (read_all tables.numbers.items taken)
    → All (IsOfTopic old) (taken_records taken) → AreAccepted old (placed old (taken_records taken))
    → (let new : PartitionLogs = record { counts = l.counts; partitions = l.partitions; keys = all; logs = logs } in HaveAppended taken old new)
filled-taken old l taken tables count all logs seen valid none counted so within places numbers is are topics accepted =
    let records = taken_records taken in
    let with_parts : PartitionLogs → PartitionLogs = λ x. record { counts = x.counts; partitions = x.partitions; keys = all; logs = logs } in
    let whole : with_parts l ≡ with_records old (placed old records) = ap with_parts seen ∙ filled-whole old taken tables count all logs valid none counted so within places numbers is are in
    record {
      appended = (accepted, whole);
      history = grow old (with_parts l) records valid topics (accepted, whole);
      valid = subst IsValidLogs (sym whole) (stay-valid old records valid topics accepted).0;
    }

-- ---- the start
pub are-empty : (counts : List ℕ) (l : PartitionLogs) → l.counts ≡ counts → AreLogsOf [] l → IsValidLogs l → l ≡ empty_logs counts
unfolding distinct
are-empty counts l is none valid =
    let keys : l.keys ≡ [] = none.numbers in
    let partitions : l.partitions ≡ sum counts = valid.in_all ∙ ap sum is in
    let logs : l.logs ≡ replicate (sum counts) [] = no-records l valid (ap length keys) ∙ ap (λ n. replicate n []) partitions in
    same-logs l (empty_logs counts) is partitions keys logs
  where
    same-logs : (l w : PartitionLogs) → l.counts ≡ w.counts → l.partitions ≡ w.partitions → l.keys ≡ w.keys → l.logs ≡ w.logs → l ≡ w
    same-logs l w c p ks ls =
        let made : PartitionLogs = record { counts = l.counts; partitions = l.partitions; keys = l.keys; logs = l.logs } in
        let same : made ≡ w = rw (c, p, ks, ls) refl in
        same
