use Rattle.csv_ingest.proofs.Pieces.{pieces-keys}
use Rattle.csv_ingest.proofs.laws.keys_of_pieces.Goals as goal

pub returns : goal.returns
returns c = pieces-keys
