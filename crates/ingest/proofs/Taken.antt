-- The records of a file, from the keys that are read.
use Rattle.std.proofs.Common.{◌≡◌, ◌∙◌, ◌<◌, ◌+◌, ℕ, Bool, true, false, List, [], ◌∷◌, length, map, cond, sym, ap, refl, arith, inl, inr, subst}
use Rattle.std.specs.Prelude.{◌==◌, ◌≤◌, not, All, Option, Some, None, Result, Ok, Err, zip}
use Rattle.std.specs.Borrow.{Bor}
use Rattle.std.specs.List.{position_from}
use Rattle.std.specs.Result.{result_map_both}
use Rattle.std.specs.Str.{bytes_eq}
use Rattle.std.proofs.lemmas.Bool.Decides.{eqb_tells}
use Rattle.std.proofs.lemmas.List.{length-map}
use Rattle.std.proofs.lemmas.List.Elements.{All-cons, All-map, All-nil}
use Rattle.lane_words.specs.declared.Refusal.{Refusal}
use Rattle.lane_words.specs.declared.Refusal.TheVariants as r
use Rattle.csv.specs.Records.{field_at}
use Rattle.csv_ingest.specs.KeyFile.{Record, Taking, behind_index, behind_topic, key_before, key_behind, key_in, keyed, keys_from, keys_of, keys_of_records, taken_of, topic_key_in, topic_keys_of, topic_of}
use Rattle.csv_ingest.specs.Pieces.{file_records}
use Rattle.csv_ingest.specs.Rounds.{chunk_keys}
use Rattle.csv_ingest.specs.declared.lack.Lack.{Lack}
use Rattle.partition_log.specs.Appends.{in_first, lent}
use Rattle.partition_log.specs.Keys.{Key, Keyed, of_first}
use Rattle.partitioner.specs.declared.topic.Topic.{Topic}
use Rattle.command_line.specs.declared.options.Options.{Options}
use Rattle.ingest.specs.Private.Counted.{TakesColumns, TakesTopics}
use Rattle.ingest.specs.Limits.{record_taken, records_taken}
use Rattle.ingest.specs.Records.{AreOfTopics, counts_among, names_topics, record_of, records_among}

-- ---- the topic of a record is one of the names
position-below : (t : List ℕ → Bool) (i n : ℕ) (names : List (List ℕ)) → position_from t i names ≡ Some n → n < i + length names
position-below t i n [] e = absurd (cc e)
position-below t i n (name ∷ names) e = go (t name) (position-below t (i + 1) n names) e
  where
    go : (b : Bool) → (position_from t (i + 1) names ≡ Some n → n < i + 1 + length names) → cond b (Some i) (position_from t (i + 1) names) ≡ Some n → n < i + length (name ∷ names)
    go true later h = let is : i ≡ n = cc h in omega arith
    go false later h = omega (arith, later h)

index-among : (names : List (List ℕ)) (index : Option ℕ) (key taken : List ℕ) → ((n : ℕ) → index ≡ Some n → n < length names) → behind_index index key ≡ Ok taken → topic_of taken < length names
index-among names None key taken below e = absurd (cc e)
index-among names (Some n) key taken below e = let is : n ∷ key ≡ taken = cc e in subst (λ k. topic_of k < length names) is (below n refl)

topic-among : (names : List (List ℕ)) (topic key : Option (List ℕ)) (taken : List ℕ) → behind_topic names topic key ≡ Ok taken → topic_of taken < length names
topic-among names None key taken e = absurd (cc e)
topic-among names (Some topic) None taken e = absurd (cc e)
topic-among names (Some topic) (Some key) taken e =
    index-among names (position_from (bytes_eq topic) 0 names) key taken (λ n at. omega (arith, position-below (bytes_eq topic) 0 n names at)) e

module _ (P : List ℕ → Type 0) (wanted : Taking) (each : (fields : Record) (key : List ℕ) → wanted fields ≡ Ok key → P key) where
  key-before : (key : List ℕ) (rest : Result (List (List ℕ)) Refusal) (all : List (List ℕ)) → P key → ((keys : List (List ℕ)) → rest ≡ Ok keys → All P keys) → key_before key rest ≡ Ok all → All P all
  key-before key (Ok keys) all p h e = let is : key ∷ keys ≡ all = cc e in subst (All P) is (All-cons P key keys p (h keys refl))
  key-before key (Err fault) all p h e = absurd (cc e)

  key-at : (nth : ℕ) (key : Result (List ℕ) Lack) (rest : Result (List (List ℕ)) Refusal) (all : List (List ℕ)) → ((k : List ℕ) → key ≡ Ok k → P k) → ((keys : List (List ℕ)) → rest ≡ Ok keys → All P keys)
      → keyed nth key rest ≡ Ok all → All P all
  key-at nth (Err lack) rest all p h e = absurd (cc e)
  key-at nth (Ok key) rest all p h e = key-before key rest all (p key refl) h e

  taken-from : (width nth : ℕ) (rows : List Record) (all : List (List ℕ)) → keys_from wanted width nth rows ≡ Ok all → All P all
  unfolding keys_from
  taken-from width nth [] all e = let is : [] ≡ all = cc e in subst (All P) is (All-nil P)
  taken-from width nth (fields ∷ rows) all e = go (length fields == width) (taken-from width (nth + 1) rows) e
    where
      go : (b : Bool) → ((keys : List (List ℕ)) → keys_from wanted width (nth + 1) rows ≡ Ok keys → All P keys)
          → cond b (keyed nth (wanted fields) (keys_from wanted width (nth + 1) rows)) (Err (r.BadCsv nth)) ≡ Ok all → All P all
      go true later h = key-at nth (wanted fields) (keys_from wanted width (nth + 1) rows) all (each fields) later h
      go false later h = absurd (cc h)

  taken-of : (header : Bool) (rows : List Record) (all : List (List ℕ)) → keys_of_records wanted header rows ≡ Ok all → All P all
  taken-of header [] all e = let is : [] ≡ all = cc e in subst (All P) is (All-nil P)
  taken-of false (first ∷ rows) all e = taken-from (length first) 1 (first ∷ rows) all e
  taken-of true (first ∷ rows) all e = taken-from (length first) 2 rows all e

-- ---- what is taken of the records of a file, or of a chunk, is of the topics that there are
of-topics : (counts : List ℕ) (has_topics : Bool) (keys : List Key) → All (λ key. (record_taken has_topics key).0 < length counts) keys → AreOfTopics counts (records_taken has_topics keys)
of-topics counts has_topics keys all = All-map (λ (k : Keyed). k.0 < length counts) (record_taken has_topics) keys all

pub file-topics : (delimiter : ℕ) (wanted : Taking) (header : Bool) (counts : List ℕ) (has_topics : Bool) (bytes : List ℕ) (keys : List Key) → TakesTopics wanted counts has_topics
    → taken_of delimiter wanted header bytes ≡ Ok keys → AreOfTopics counts (records_taken has_topics keys)
file-topics delimiter wanted header counts has_topics bytes keys topics e =
    of-topics counts has_topics keys (taken-of (λ key. (record_taken has_topics key).0 < length counts) wanted topics header (file_records delimiter bytes) keys e)

pub chunk-topics : (delimiter : ℕ) (wanted : Taking) (header : Bool) (counts : List ℕ) (has_topics : Bool) (width : Option ℕ) (chunk : List ℕ) (keys : List Key) → TakesTopics wanted counts has_topics
    → chunk_keys delimiter wanted header width chunk ≡ Ok keys → AreOfTopics counts (records_taken has_topics keys)
chunk-topics delimiter wanted header counts has_topics None chunk keys topics e = file-topics delimiter wanted header counts has_topics chunk keys topics e
chunk-topics delimiter wanted header counts has_topics (Some width) chunk keys topics e =
    of-topics counts has_topics keys (taken-from (λ key. (record_taken has_topics key).0 < length counts) wanted topics width 1 (file_records delimiter chunk) keys e)

some-count : (partitions : ℕ) (topics : List Topic) → 1 ≤ length (counts_among partitions topics)
some-count partitions [] = omega arith
some-count partitions (topic ∷ topics) = omega arith

-- a key alone is of the first topic
pub takes-first : (column partitions : ℕ) (topics : List Topic) → TakesTopics (key_in column) (counts_among partitions topics) false
takes-first column partitions topics = λ fields key is. some-count partitions topics

-- a key behind the index of its topic is of one of those that are named
pub takes-among : (column topic_column partitions : ℕ) (topics : List Topic) (names : List (List ℕ)) → (length topics == 0) ≡ false → names ≡ map (λ (t : Topic). t.name) topics
    → TakesTopics (topic_key_in column topic_column names) (counts_among partitions topics) true
takes-among column topic_column partitions [] names some is = absurd (cc some)
takes-among column topic_column partitions (topic ∷ topics) names some is =
    let long : length names ≡ length (map (λ (t : Topic). t.partitions) (topic ∷ topics)) =
    ap length is ∙ length-map (topic ∷ topics) (λ (t : Topic). t.name) ∙ sym (length-map (topic ∷ topics) (λ (t : Topic). t.partitions)) in
    λ fields key e. subst (λ n. topic_of key < n) long (topic-among names (field_at fields _) (field_at fields _) key e)

firsts : (n : ℕ) → 1 ≤ n → (keys : List Key) → All (λ (k : Keyed). k.0 < n) (in_first keys)
firsts n some [] = All-nil (λ (k : Keyed). k.0 < n)
firsts n some (key ∷ keys) = All-cons (λ (k : Keyed). k.0 < n) (of_first key) (in_first keys) some (firsts n some keys)

-- ---- the keys read are those of the records
pub topic-records : (delimiter : ℕ) (header : Bool) (column topic_column : ℕ) (bytes : List ℕ) (topics : List Topic) (names : List (List ℕ)) → (length topics == 0) ≡ false → names ≡ map (λ (t : Topic). t.name) topics
    → records_among delimiter header topics bytes column topic_column ≡ result_map_both (map record_of) (λ fault. fault) (topic_keys_of delimiter column topic_column names header bytes)
topic-records delimiter header column topic_column bytes [] names some is = absurd (cc some)
topic-records delimiter header column topic_column bytes (topic ∷ topics) names some is =
    ap (λ ns. result_map_both (map record_of) (λ fault. fault) (topic_keys_of delimiter column topic_column ns header bytes)) (sym is)

-- what is taken for a count are the records of the columns
pub takes-key : (options : Options) (column topic_column : ℕ) → (length options.topics.items == 0) ≡ true → TakesColumns options column topic_column (key_in column)
takes-key options column topic_column none = λ file. go options.topics.items none file
  where
    go : (topics : List Topic) → (length topics == 0) ≡ true → (file : List ℕ)
        → records_among options.delimiter options.header topics file column topic_column
        ≡ result_map_both (records_taken (not (length topics == 0))) (λ fault. fault) (keys_of options.delimiter column options.header file)
    go [] none file = refl
    go (topic ∷ topics) none file = absurd (elim (eqb_tells (length (topic ∷ topics)) 0) [ inl same ↦ omega (arith, same.1) | inr other ↦ cc (sym none ∙ other.0) ])

pub takes-topic_key : (options : Options) (column topic_column : ℕ) (names : List (List ℕ)) → (length options.topics.items == 0) ≡ false → names ≡ map (λ (t : Topic). t.name) options.topics.items
    → TakesColumns options column topic_column (topic_key_in column topic_column names)
takes-topic_key options column topic_column names some is =
    let named : names_topics options ≡ true = ap not some in
    λ file. topic-records options.delimiter options.header column topic_column file options.topics.items names some is
    ∙ ap (λ b. result_map_both (records_taken b) (λ fault. fault) (topic_keys_of options.delimiter column topic_column names options.header file)) (sym named)

-- ---- records as pairs
zipped-records : (keys : List (List ℕ)) → zip (map topic_of keys) (map key_behind keys) ≡ map record_of keys
zipped-records [] = refl
zipped-records (key ∷ keys) = ap (λ (records : List Keyed). record_of key ∷ records) (zipped-records keys)

pub records-are : (keys : List (List ℕ)) (topics topic_items : List ℕ) (slices items : List (Bor Key)) → topics ≡ topic_items → topic_items ≡ map topic_of keys → slices ≡ items → map (λ key. key.now) items ≡ map key_behind keys
    → zip topics (lent slices) ≡ map record_of keys
records-are keys topics topic_items slices items ts these ss those =
    ap (λ xs. zip xs (lent slices)) (ts ∙ these) ∙ ap (zip (map topic_of keys)) (ap lent ss ∙ those) ∙ zipped-records keys
