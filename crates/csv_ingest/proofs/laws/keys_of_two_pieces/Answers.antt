use Rattle.csv_ingest.proofs.Pieces.{keys_from-append}
use Rattle.csv_ingest.proofs.laws.keys_of_two_pieces.Goals as goal

pub returns : goal.returns
returns c = keys_from-append
