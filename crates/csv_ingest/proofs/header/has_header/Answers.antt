use Rattle.std.proofs.Common.{◌∙◌, ap, arith, sym}
use Rattle.csv_ingest.proofs.Headers.{header-found}
use Rattle.csv_ingest.proofs.header.has_header.Goals as goal

pub returns : goal.returns
returns c is =
    header-found c.args.delimiter c.args.text.now c.in_ok-pieces.pieces.items c.index.result.now.now _ c.in_ok-width.width c.in_ok-pieces.ensures (omega (arith, c.len.ensures)) (ap (λ p. p.now) c.index.ensures)
    c.in_ok-width.ensures (sym c.is_some.ensures ∙ is)
