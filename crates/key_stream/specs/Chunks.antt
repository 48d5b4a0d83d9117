-- What a worker does with a chunk.
use Rattle.std.specs.Prelude.{ℕ, Bool, List, Option, Result}
use Rattle.lane_words.specs.declared.Refusal.{Refusal}
use Rattle.csv_ingest.specs.KeyFile.{Taking}
use Rattle.csv_ingest.specs.Rounds.{chunk_keys}
use Rattle.csv_ingest.specs.Sinks.{TakesFound}
use Rattle.key_counts.specs.Counts.{Entries, Takes}

-- a worker took the keys of a chunk, so many; or this is the chunk's fault, or memory was refused
abbrev pub TakesChunk : ℕ → Taking → Bool → Option ℕ → List ℕ → Entries → Entries
    → Result ℕ Refusal → Type 0
TakesChunk delimiter wanted header width chunk old new found =
    TakesFound (λ a keys b. Takes a b keys)
    (chunk_keys delimiter wanted header width chunk) old new found
