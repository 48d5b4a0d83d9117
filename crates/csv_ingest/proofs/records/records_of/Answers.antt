use Rattle.std.proofs.Common.{rules}
use Rattle.csv_ingest.proofs.records.records_of.Goals as goal

pub returns-clause-reads : goal.returns-clause-reads
returns-clause-reads c = search rules

pub returns-clause-left : goal.returns-clause-left
returns-clause-left c = search rules
