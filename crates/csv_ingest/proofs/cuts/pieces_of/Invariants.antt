use Rattle.std.proofs.Common.{◌≡◌, ◌≢◌, ◌≤◌, ◌∷◌, ◌++◌, [], All, length, true}
use Rattle.csv_ingest.specs.Pieces.{ArePieces}
use Rattle.csv_ingest.specs.Private.Pieces.{lent}
use Rattle.csv_ingest.proofs.cuts.pieces_of.Given as goal

abbrev pub invariant-loop-piece : goal.invariant-loop-piece
invariant-loop-piece l = record {
  within : length l.rest ≤ length l.file;
  plain : l.plain ≡ true → All (λ c. c ≢ 34) l.rest;
  pieces : ArePieces l.delimiter l.file (lent l.found.items ++ l.rest ∷ []);
}
