use Rattle.std.proofs.Common.{◌∙◌, ap, arith, sym}
use Rattle.csv_ingest.specs.declared.stand.Stand.TheVariants as k
use Rattle.check_report.specs.Places.{places_from}
use Rattle.check_report.proofs.Starts.{starts-end}
use Rattle.check_report.proofs.places.Places.next.Goals as goal

pub returns-then-start-self-clause-none : goal.returns-then-start-self-clause-none
returns-then-start-self-clause-none c =
    let file = c.self.inside.file.now in
    let start = c.record_start-start.result in
    sym c.self.view_is
    ∙ ap (places_from file c.self.inside.nth) (c.record_start-start.ensures.starts c.self.inside.delimiter ∙ starts-end c.self.inside.delimiter k.Record file start (omega (arith, c.if-start-self.true)))
