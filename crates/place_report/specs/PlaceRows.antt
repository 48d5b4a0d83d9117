-- The tables of a file's places.
use Rattle.std.specs.Prelude.{ℕ, ◌==◌, List, [], ◌∷◌, ◌++◌, Option, codes, decimal, filter, find, flat_map, fold, if◌then◌else◌, length, max, unwrap_or}
use Rattle.std.specs.List.{sum}
use Rattle.csv.specs.Writing.{row_text}
use Rattle.partition_log.specs.Keys.{Key, Keyed, distinct, keys_in, plain}
use Rattle.partition_log.specs.Logs.{place_in_topic}
use Rattle.partitioner.specs.declared.topic.Topic.{Topic}
use Rattle.report_rows.specs.ReplayRows.{partition_fields, rows_below}
use Rattle.report_rows.specs.Rows.{row_writer}
use Rattle.ingest.specs.Records.{partition_of_record}

-- the keys of the records that go to partition p, in order
abbrev pub keys_at : List ℕ → List Keyed → ℕ → List Key
keys_at counts records p =
    keys_in (filter (λ keyed. partition_of_record counts keyed == p) records)

-- with topics, the column of the topic
abbrev pub topic_column : List Topic → List (List ℕ)
topic_column [] = []
topic_column topics = codes "topic" ∷ []

-- ---- a row for each partition
-- how often the most frequent of these keys occurs; 0 if there is none
abbrev pub most_of : List Key → ℕ
most_of keys = fold (λ most key. max most (plain keys key)) 0 keys

-- the most frequent of these keys, and of several the one that came first
abbrev pub largest_of : List Key → Option Key
largest_of keys = find (λ key. plain keys key == most_of keys) keys

-- the first row: what the columns of a partition are
unfoldable pub partition_header : List Topic → List ℕ
partition_header topics =
    row_text row_writer
    (topic_column topics ++ codes "partition" ∷ codes "records" ∷ codes "keys" ∷ codes "largest"
    ∷ codes "records_of_largest" ∷ [])

-- the row of a partition whose records have these keys: how many records and how many different
-- keys it has, the most frequent key, which is empty if there is none, and how many records that
-- has
unfoldable pub partition_row : List Topic → ℕ → List Key → List ℕ
partition_row topics p keys =
    row_text row_writer
    (partition_fields topics p
    ++ decimal (length keys) ∷ decimal (length (distinct keys)) ∷ unwrap_or (largest_of keys) []
    ∷ decimal (most_of keys) ∷ [])

-- the table of the partitions
abbrev pub partition_table : List Topic → List ℕ → List Keyed → List ℕ
partition_table topics counts records =
    partition_header topics
    ++ rows_below (sum counts) (λ p. partition_row topics p (keys_at counts records p))

-- ---- a row for each key
-- the first row: what the columns of a key are
unfoldable pub key_header : List Topic → List ℕ
key_header topics =
    row_text row_writer
    (codes "key" ∷ topic_column topics ++ codes "partition" ∷ codes "records" ∷ [])

-- the row of a key and a partition that has n records of it; nothing if it has none
unfoldable pub key_row : List Topic → Key → ℕ → ℕ → List ℕ
key_row topics key p n =
    if n == 0 then [] else row_text row_writer (key ∷ partition_fields topics p ++ decimal n ∷ [])

-- the rows of a key: in each topic that has records of it, its partition, and how many they are
abbrev pub key_rows : List Topic → List ℕ → List Keyed → Key → List ℕ
key_rows topics counts records key =
    rows_below (length counts) (λ t. let p = place_in_topic counts t key in
    key_row topics key p (plain (keys_at counts records p) key))

-- the table of the keys, in the order of first appearance
abbrev pub key_table : List Topic → List ℕ → List Keyed → List ℕ
key_table topics counts records =
    key_header topics ++ flat_map (key_rows topics counts records) (distinct (keys_in records))
