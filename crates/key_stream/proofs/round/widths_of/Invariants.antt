use Rattle.csv_ingest.specs.Private.Pieces.{lent}
use Rattle.key_stream.proofs.Widths.{AreWidths}
use Rattle.key_stream.proofs.round.widths_of.Given as goal

abbrev pub invariant-loop-i : goal.invariant-loop-i
invariant-loop-i l = AreWidths l.fn.delimiter l.fn.width (lent l.chunks) l.i l.widths.items l.width
