use Rattle.std.proofs.Common.{◌∙◌, ap, sym}
use Rattle.csv_ingest.specs.Stand.{stand_next}
use Rattle.csv_ingest.proofs.Cutting.{stand-more, stand-nil}
use Rattle.csv_ingest.proofs.cuts.open_cut.Goals as goal

pub loop-i-init : goal.loop-i-init
loop-i-init c = sym (stand-nil c.args.delimiter c.args.from)

pub loop-i-preserved : goal.loop-i-preserved
loop-i-preserved c = c.next-next.ensures ∙ stand-more c.args.delimiter c.args.from c.loop-i.stand c.args.bytes.now c.loop-i.i c.loop-i-test.true c.loop-i.invariant

pub returns-then-is_record-clause-cut : goal.returns-then-is_record-clause-cut
returns-then-is_record-clause-cut c =
    let delimiter = c.args.delimiter in
    let feed = c.if-byte-eq10.true in
    (feed, ap (λ s. stand_next delimiter s 10) (sym c.loop-i.invariant) ∙ ap (stand_next delimiter c.loop-i.stand) (sym feed) ∙ sym c.next-next.ensures ∙ c.is_record.ensures.if_true c.if-is_record.true)
