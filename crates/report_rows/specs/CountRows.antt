-- The rows of a count, and the counts that they state.
use Rattle.std.specs.Prelude.{◌≡◌, ◌<◌, ◌==◌, ℕ, List, [], ◌∷◌, ◌++◌, Option, Some, None, codes, decimal, flat_map, if◌then◌else◌, length, map, nat_le, slice_index, slice_range, take}
use Rattle.std.specs.List.{zip}
use Rattle.csv.specs.Writing.{row_text}
use Rattle.partition_log.specs.Keys.{Key, distinct, key_at, plain}
use Rattle.partition_log.specs.Logs.{PartitionLogs, count_in_logs}
use Rattle.report_rows.specs.Rows.{row_writer, total_row}

-- the row of a key that was counted n times: the word, the key as it is, and n in decimal
unfoldable pub count_row : List ℕ → ℕ → List ℕ
count_row key n = row_text row_writer (codes "count" ∷ key ∷ decimal n ∷ [])

-- the row of each key with its count, in the order of the keys
abbrev pub rows_by : (List ℕ → ℕ → List ℕ) → List (List ℕ) → List ℕ → List ℕ
rows_by row [] counts = []
rows_by row (key ∷ keys) [] = []
rows_by row (key ∷ keys) (n ∷ counts) = row key n ++ rows_by row keys counts

-- the rows of keys with their counts
unfoldable pub count_rows : List (List ℕ) → List ℕ → List ℕ
count_rows keys counts = rows_by count_row keys counts

-- the row of a key, or nothing if its count is 0
abbrev pub counted_row : List ℕ → ℕ → List ℕ
counted_row key n = if n == 0 then [] else count_row key n

-- an item, before the first of these whose count is no higher
abbrev pub inserted_by : {X : Type 0} → (X → ℕ) → X → List X → List X
inserted_by count item [] = item ∷ []
inserted_by count item (other ∷ others) =
    if nat_le (count other) (count item) then item ∷ other ∷ others
    else other ∷ inserted_by count item others

-- items by count, the highest first; items with the same count stay in their order
abbrev pub ranked_by : {X : Type 0} → (X → ℕ) → List X → List X
ranked_by count [] = []
ranked_by count (item ∷ items) = inserted_by count item (ranked_by count items)

-- the rows of the `most` keys with the highest counts; a key with count 0 has none
unfoldable pub top_rows : ℕ → List (List ℕ) → List ℕ → List ℕ
top_rows most keys counts =
    flat_map (λ counted. counted_row counted.0 counted.1)
    (take most (ranked_by (λ counted. counted.1) (zip keys counts)))

-- the rows of all keys in their order, or of the top
abbrev pub listed_rows : Option ℕ → List (List ℕ) → List ℕ → List ℕ
listed_rows None keys counts = count_rows keys counts
listed_rows (Some most) keys counts = top_rows most keys counts

-- the rows of the keys from one number on, below another
abbrev pub rows_between : List (List ℕ) → List ℕ → ℕ → ℕ → List ℕ
rows_between keys counts from to =
    count_rows (slice_range keys from to) (slice_range counts from to)

-- how often each key occurs, in the order of first appearance
unfoldable pub counts_of : List Key → List ℕ
counts_of keys = map (plain keys) (distinct keys)

-- the text of a count of these keys: the rows of all or of the top, and the number of keys as both
-- totals
abbrev pub plain_text : Option ℕ → List Key → List ℕ
plain_text top keys =
    listed_rows top (distinct keys) (counts_of keys) ++ total_row (length keys) (length keys)

-- the counters of all logs together, by key number: how often each key occurs in them
pub record AreCountsByNumber (l : PartitionLogs) (counts : List ℕ) : Type 0 where
  pub one_each : length counts ≡ length l.keys
  pub counted : (n : ℕ) → n < length l.keys
      → slice_index counts n ≡ count_in_logs l (key_at l.keys n)
