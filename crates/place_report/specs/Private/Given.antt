-- Records next to what their given column has, as they are walked.
use Rattle.std.specs.Prelude.{◌≡◌, ◌≤◌, ◌+◌, ◌-◌, ◌^◌, ℕ, List, [], ◌∷◌, Result, bytes_eq, drop, if◌then◌else◌, length, map, slice_index_or}
use Rattle.std.specs.Result.{result_map_both}
use Rattle.lane_words.specs.declared.Refusal.{Refusal}
use Rattle.partition_log.specs.Keys.{Keyed, keys_in}
use Rattle.partitioner.specs.declared.topic.Topic.{Topic}
use Rattle.ingest.specs.Records.{ReadRecords, records_in}
use Rattle.place_report.specs.Given.{misplaced_row, misplaced_rows, number_text}
use Rattle.place_report.specs.declared.given.Given.{Given}
use Rattle.place_report.specs.declared.given.Told.{Told}

-- the texts of the given column, which were read as keys
abbrev pub texts_in : ReadRecords → List (List ℕ)
texts_in read = keys_in (records_in read)

-- an answer as the records that it returns, or as the texts
abbrev pub records_seen : Result ReadRecords Refusal → Result (List Keyed) Refusal
records_seen answer = result_map_both records_in (λ fault. fault) answer

abbrev pub texts_seen : Result ReadRecords Refusal → Result (List (List ℕ)) Refusal
texts_seen answer = result_map_both texts_in (λ fault. fault) answer

-- an answer as both that it returns
abbrev pub both_seen : Result (ReadRecords × ReadRecords) Refusal
    → Result (List Keyed × List (List ℕ)) Refusal
both_seen answer =
    result_map_both (λ read. (records_in read.0, texts_in read.1)) (λ fault. fault) answer

-- an answer as the text of its table
abbrev pub text_told : Result Told Refusal → Result (List ℕ) Refusal
text_told answer = result_map_both (λ told. told.text.items) (λ fault. fault) answer

-- the keys of records, and the texts of their given column
abbrev pub keys_of : Given → List (List ℕ)
keys_of given = map (λ key. key.now) given.keys.now

abbrev pub texts_of : Given → List (List ℕ)
texts_of given = map (λ text. text.now) given.texts.now

-- each record has a partition, a key, a text and a number
pub record AreAsMany (given : Given) : Type 0 where
  pub keys : length given.keys.now ≡ length given.places.now
  pub texts : length given.texts.now ≡ length given.places.now
  pub numbers : given.first + length given.places.now ≤ 2 ^ 64 - 1

-- the rows of those that are misplaced
abbrev pub misplaced_in : List Topic → Given → List (List ℕ)
misplaced_in topics given =
    misplaced_rows topics given.first given.places.now (keys_of given) (texts_of given)

-- the same from record i on
abbrev pub misplaced_from : List Topic → Given → ℕ → List (List ℕ)
misplaced_from topics given i =
    misplaced_rows topics (given.first + i) (drop i given.places.now) (drop i (keys_of given))
    (drop i (texts_of given))

-- the row of record i if it is misplaced
abbrev pub row_at : List Topic → Given → ℕ → List (List ℕ)
row_at topics given i =
    let p = slice_index_or given.places.now i 0 in
    let text = slice_index_or (texts_of given) i [] in
    if bytes_eq text (number_text topics p) then []
    else misplaced_row topics (given.first + i) (slice_index_or (keys_of given) i []) text p ∷ []
