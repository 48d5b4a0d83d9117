use Rattle.csv_ingest.proofs.Stands.{stand-append}
use Rattle.csv_ingest.proofs.laws.stand_after_two.Goals as goal

pub returns : goal.returns
returns c = λ delimiter s a b. stand-append delimiter a s b
