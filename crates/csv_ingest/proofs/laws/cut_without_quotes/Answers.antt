use Rattle.csv_ingest.proofs.Stands.{cut_without_quotes}
use Rattle.csv_ingest.proofs.laws.cut_without_quotes.Goals as goal

pub returns : goal.returns
returns c = cut_without_quotes
