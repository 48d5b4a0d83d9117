use Rattle.csv_ingest.proofs.Stands.{no_quote-outside}
use Rattle.csv_ingest.proofs.laws.outside_without_quotes.Goals as goal

pub returns : goal.returns
returns c = λ delimiter s a. no_quote-outside delimiter a s
