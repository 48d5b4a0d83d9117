use Rattle.csv_ingest.proofs.Rounds.{split-keys}
use Rattle.csv_ingest.proofs.laws.keys_of_two_chunks.Goals as goal

pub returns : goal.returns
returns c = split-keys
