use Rattle.csv_ingest.proofs.Stands.{cut_before}
use Rattle.csv_ingest.proofs.laws.cut_before_a_line_feed.Goals as goal

pub returns : goal.returns
returns c = cut_before
