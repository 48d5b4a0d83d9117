-- Where a file can be cut.
use Rattle.std.specs.Prelude.{ℕ, List}
use Rattle.csv_ingest.specs.Stand.{EndsRecord}
use Rattle.csv_ingest.specs.declared.stand.Stand.{Stand}

-- wherever a reader stood before these bytes, a line feed behind them ends a record
abbrev pub AlwaysEndsRecord : ℕ → List ℕ → Type 0
AlwaysEndsRecord delimiter bytes = (s : Stand) → EndsRecord delimiter s bytes
