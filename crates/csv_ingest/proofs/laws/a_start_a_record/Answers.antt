use Rattle.csv_ingest.proofs.Starts.{a_start_each}
use Rattle.csv_ingest.proofs.laws.a_start_a_record.Goals as goal

pub returns : goal.returns
returns c = a_start_each
