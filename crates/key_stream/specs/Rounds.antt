-- What a round reads of a file.
use Rattle.std.specs.Prelude.{◌≡◌, ℕ, Bool, List, length, map}
use Rattle.csv_ingest.specs.KeyFile.{Taking}
use Rattle.csv_ingest.specs.Rounds.{HasRead}
use Rattle.key_counts.specs.Counts.{Entries}
use Rattle.key_stream.specs.declared.round.Round.{Round}
use Rattle.key_stream.specs.declared.worker.Worker.{Worker}

-- the counters of workers
abbrev pub entries_in : List Worker → List Entries
entries_in workers = map (λ worker. worker.counter.entries) workers

-- these bytes of a file were read and had no fault; these are the keys, and this is what the round
-- behind them knows
pub record IsRead (delimiter : ℕ) (wanted : Taking) (header : Bool) (read : List ℕ) (round : Round)
    (keys : List (List ℕ)) : Type 0 where
  pub records : ℕ
  pub so : HasRead delimiter wanted header read round.width records keys
  pub counted : round.keys ≡ length keys
