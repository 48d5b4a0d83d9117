use Rattle.std.proofs.Common.{inr}
use Rattle.csv_ingest.proofs.Fields.{row-lacks, row-long}
use Rattle.csv_ingest.proofs.scan.Row.give_to.Goals as goal

pub returns-then-self-width-clause-fault : goal.returns-then-self-width-clause-fault
returns-then-self-width-clause-fault g c =
    inr (λ fields is. row-long c.args.column c.args.self.now c.args.width c.args.nth fields c.if-self-width.true is)

pub returns-then-self-column-clause-fault : goal.returns-then-self-column-clause-fault
returns-then-self-column-clause-fault g c =
    inr (λ fields is. row-lacks c.args.column c.args.self.now c.args.width c.args.nth fields c.if-self-width.false c.if-self-column.true is)
