use Rattle.csv_ingest.proofs.Stands.{cut_file}
use Rattle.csv_ingest.proofs.laws.cut_file.Goals as goal

pub returns : goal.returns
returns c = cut_file
