use Rattle.ingest.proofs.Checking.{concluded}
use Rattle.ingest.proofs.counted.count_source.Goals as goal

pub returns-in-Ok-clause-ok : goal.returns-in-Ok-clause-ok
returns-in-Ok-clause-ok g c =
    concluded _ _ _ _ _ _ _ _ _ _ c.count_windows.new.check c.in_ok-conclude-in-Ok.field-0 c.in-Ok.ensures.ok (λ keys so within. c.in_ok-conclude-in-Ok.ensures keys so within) c.requires.topics
