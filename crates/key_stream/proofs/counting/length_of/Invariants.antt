use Rattle.std.proofs.Common.{◌≡◌, length, take}
use Rattle.csv_ingest.specs.Private.Pieces.{bytes_of, lent}
use Rattle.key_stream.proofs.counting.length_of.Given as goal

abbrev pub invariant-loop-i : goal.invariant-loop-i
invariant-loop-i l = l.sum ≡ length (bytes_of (take l.i (lent l.pieces)))
