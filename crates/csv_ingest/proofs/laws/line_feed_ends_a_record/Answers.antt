use Rattle.csv_ingest.proofs.Stands.{line-record}
use Rattle.csv_ingest.proofs.laws.line_feed_ends_a_record.Goals as goal

pub returns : goal.returns
returns c = λ delimiter s a. line-record delimiter a s
