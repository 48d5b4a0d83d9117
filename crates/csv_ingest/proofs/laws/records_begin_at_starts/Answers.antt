use Rattle.csv_ingest.proofs.Starts.{each_begins}
use Rattle.csv_ingest.proofs.laws.records_begin_at_starts.Goals as goal

pub returns : goal.returns
returns c = each_begins
