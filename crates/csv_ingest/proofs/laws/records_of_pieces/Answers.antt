use Rattle.csv_ingest.proofs.Pieces.{pieces-records}
use Rattle.csv_ingest.proofs.laws.records_of_pieces.Goals as goal

pub returns : goal.returns
returns c = λ delimiter file pieces. pieces-records delimiter pieces file
