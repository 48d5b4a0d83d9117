use Rattle.std.proofs.Common.{◌≢◌, ◌∙◌, ◌∷◌, ℕ, List, ap, arith, rules, sym, length}
use Rattle.csv_ingest.specs.declared.stand.Stand.TheVariants as k
use Rattle.check_report.proofs.Starts.{starts-end, starts-here, starts-within}
use Rattle.check_report.proofs.places.record_end.Goals as goal

pub loop-i-init : goal.loop-i-init
loop-i-init c = rw c.next-stand.ensures (starts-here c.args.delimiter c.args.file.now c.args.start c.requires.range c.requires.byte)

pub loop-i-preserved : goal.loop-i-preserved
loop-i-preserved c =
    let other : c.loop-i.stand ≢ k.Record = search rules in
    rw c.next-stand-in-loop-i.ensures
    (c.loop-i.invariant ∙ ap (λ (rest : List ℕ). c.args.start ∷ rest) (starts-within c.args.delimiter c.loop-i.stand c.args.file.now c.loop-i.i c.loop-i-test.true other))

pub returns-clause-starts : goal.returns-clause-starts
returns-clause-starts c =
    let file = c.args.file.now in
    c.loop-i.invariant
    ∙ ap (λ (rest : List ℕ). c.args.start ∷ rest) (starts-end c.args.delimiter c.loop-i.stand file c.loop-i.i c.loop-i-test.false ∙ sym (starts-end c.args.delimiter k.Record file (length file) (omega arith)))
