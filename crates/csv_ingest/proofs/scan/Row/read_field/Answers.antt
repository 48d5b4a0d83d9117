use Rattle.csv_ingest.proofs.Fields.{ok-both, row-whole}
use Rattle.csv_ingest.proofs.scan.Row.read_field.Goals as goal

pub returns-then-text-at-eq34-clause-field : goal.returns-then-text-at-eq34-clause-field
returns-then-text-at-eq34-clause-field c =
    ok-both c.read_in_quotes.result _ _ _
    (λ end reads same. row-whole c.args.delimiter c.args.text.now c.args.at end c.args.column c.args.self.now c.read_in_quotes.new.self reads same)
    c.read_in_quotes.ensures.key c.read_in_quotes.ensures.count

pub returns-else-text-at-eq34-clause-field : goal.returns-else-text-at-eq34-clause-field
returns-else-text-at-eq34-clause-field c =
    row-whole c.args.delimiter c.args.text.now c.args.at c.read_without.result c.args.column c.args.self.now c.read_without.new.self c.read_without.ensures.key c.read_without.ensures.count
