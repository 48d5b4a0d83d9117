use Rattle.ingest.proofs.FoundColumns.{finds-both}
use Rattle.ingest.proofs.columns.columns_of.Goals as goal

pub returns-clause-answer : goal.returns-clause-answer
returns-clause-answer c = finds-both _ _ _ c.in_ok-key.ensures.answer c.in_ok-topic.ensures.answer
