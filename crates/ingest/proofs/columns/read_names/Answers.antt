use Rattle.ingest.proofs.FoundColumns.{knows-ok}
use Rattle.ingest.proofs.columns.read_names.Goals as goal

pub returns-clause-ok : goal.returns-clause-ok
returns-clause-ok g c = knows-ok _ _ _ _ _ c.read_header.result c.read_header.ensures.ok
