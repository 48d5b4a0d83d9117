-- A key appended to a log.
use Rattle.std.specs.Prelude.{List, ℕ, [], ◌∷◌, ◌++◌, length, if◌then◌else◌, slice_index_or, slice_set, Result, Ok, Err}
use Rattle.lane_words.specs.declared.Refusal.{Refusal}
use Rattle.lane_words.specs.declared.Refusal.TheVariants as r
use Rattle.partition_log.specs.Keys.{Key, id_of}
use Rattle.partition_log.specs.Logs.{exceeds_limits}

-- the answer of an append of a key to this log: its offset, or that the log is full
abbrev pub log_answer : List Key → List ℕ → Key → Result ℕ Refusal
log_answer keys log key =
    if exceeds_limits keys (length log) key then Err r.LogFull else Ok (length log)

-- a log with the number of one more key
abbrev pub with_id : List Key → List ℕ → Key → List ℕ
with_id keys log key = log ++ id_of keys key ∷ []

-- the logs, of which one has the number of one more key
abbrev pub with_id_at : List Key → List (List ℕ) → ℕ → Key → List (List ℕ)
with_id_at keys logs place key =
    slice_set logs place (with_id keys (slice_index_or logs place []) key)
