use Rattle.std.proofs.Common.{rules}
use Rattle.csv_ingest.proofs.wanted.Wanted.topic_and_key.Goals as goal

pub returns : goal.returns
returns c = search rules
