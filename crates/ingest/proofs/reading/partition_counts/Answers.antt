use Rattle.std.proofs.Common.{rules}
use Rattle.ingest.proofs.Placed.{counts-valid}
use Rattle.ingest.proofs.reading.partition_counts.Goals as goal

pub returns-else-is_empty-clause-valid : goal.returns-else-is_empty-clause-valid
returns-else-is_empty-clause-valid c = counts-valid c.args.options.now c.requires

pub returns-in_ok-from_slice-clause-value : goal.returns-in_ok-from_slice-clause-value
returns-in_ok-from_slice-clause-value c = search rules
