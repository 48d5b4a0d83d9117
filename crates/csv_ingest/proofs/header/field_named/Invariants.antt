use Rattle.std.proofs.Common.{◌≡◌, drop, take}
use Rattle.std.specs.List.{position_from}
use Rattle.std.specs.Str.{bytes_eq}
use Rattle.csv.specs.Records.{fields_of}
use Rattle.csv_ingest.proofs.header.field_named.Given as goal

abbrev pub invariant-loop-i : goal.invariant-loop-i
invariant-loop-i l =
    position_from (bytes_eq l.name) 0 (take l.most (fields_of l.row)) ≡ position_from (bytes_eq l.name) l.i (drop l.i (take l.most (fields_of l.row)))
