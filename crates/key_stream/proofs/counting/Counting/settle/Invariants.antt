use Rattle.csv_ingest.specs.Private.Pieces.{lent}
use Rattle.csv_ingest.specs.Private.Wanted.{taking}
use Rattle.key_stream.proofs.Settled.{IsSettling}
use Rattle.key_stream.proofs.counting.Counting.settle.Given as goal

abbrev pub invariant-loop-chunk : goal.invariant-loop-chunk
invariant-loop-chunk l =
    IsSettling l.fn.layout.delimiter (taking l.fn.layout.wanted.now) l.fn.layout.header
    l.fn.chunks.widths.now (lent l.fn.chunks.texts.now) l.fn.self l.chunk l.settled.items l.self
