use Rattle.std.proofs.Common.{rules}
use Rattle.csv_ingest.proofs.wanted.Wanted.of.Goals as goal

pub returns-in_default-clause-fault : goal.returns-in_default-clause-fault
returns-in_default-clause-fault c = search rules

pub returns-in_default-topics-clause-value : goal.returns-in_default-topics-clause-value
returns-in_default-topics-clause-value c = search rules

pub returns-in_default-index_of-clause-fault : goal.returns-in_default-index_of-clause-fault
returns-in_default-index_of-clause-fault c = search rules

pub returns-clause-value : goal.returns-clause-value
returns-clause-value c = search rules

pub returns-in_default-index_of-clause-value : goal.returns-in_default-index_of-clause-value
returns-in_default-index_of-clause-value c = search rules
