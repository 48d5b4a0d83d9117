use Rattle.std.proofs.Common.{◌∙◌, sym}
use Rattle.std.specs.Str.{bytes_eq}
use Rattle.csv_ingest.proofs.Topics.{position-here, position-next}
use Rattle.csv_ingest.proofs.wanted.index_of.Goals as goal

pub returns-then-eq : goal.returns-then-eq
returns-then-eq c =
    sym (c.loop-i.invariant ∙ position-here (bytes_eq c.args.topic.now) c.args.names.now c.loop-i.i _ c.loop-i-test.true (sym c.eq.ensures ∙ c.if-eq.true))

pub loop-i-preserved : goal.loop-i-preserved
loop-i-preserved c =
    c.loop-i.invariant ∙ position-next (bytes_eq c.args.topic.now) c.args.names.now c.loop-i.i _ c.loop-i-test.true (sym c.eq.ensures ∙ c.if-eq.false)
