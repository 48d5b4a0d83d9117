use Rattle.csv_ingest.proofs.Pieces.{keys_from-count}
use Rattle.csv_ingest.proofs.laws.a_key_a_record.Goals as goal

pub returns : goal.returns
returns c = keys_from-count
