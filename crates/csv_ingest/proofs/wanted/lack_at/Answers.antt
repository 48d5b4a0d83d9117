use Rattle.std.proofs.Common.{rules}
use Rattle.csv_ingest.proofs.wanted.lack_at.Goals as goal

pub returns-in-Column : goal.returns-in-Column
returns-in-Column c = search rules
