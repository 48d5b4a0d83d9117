use Rattle.csv_ingest.proofs.Pieces.{keys_from-later}
use Rattle.csv_ingest.proofs.laws.keys_later.Goals as goal

pub returns : goal.returns
returns c = keys_from-later
