use Rattle.std.proofs.Common.{rules}
use Rattle.csv_ingest.proofs.scan.Row.go_on.Goals as goal

pub returns-clause-count : goal.returns-clause-count
returns-clause-count c = search rules

pub returns-clause-row : goal.returns-clause-row
returns-clause-row c = search rules
