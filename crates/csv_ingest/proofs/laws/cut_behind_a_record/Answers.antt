use Rattle.csv_ingest.proofs.Stands.{cut_behind}
use Rattle.csv_ingest.proofs.laws.cut_behind_a_record.Goals as goal

pub returns : goal.returns
returns c = cut_behind
