use Rattle.ingest.proofs.Failures.{device-count, found-count}
use Rattle.ingest.proofs.FoundColumns.{found, missing}
use Rattle.ingest.proofs.columns.find_columns.Goals as goal

pub returns-in-Ok-clause-ok : goal.returns-in-Ok-clause-ok
returns-in-Ok-clause-ok g c = found _ _ _ _ _ c.columns_of.result c.in-Ok.ensures.ok (rw c.text.ensures at c.columns_of.ensures.answer)

pub returns-in-Ok-clause-err : goal.returns-in-Ok-clause-err
returns-in-Ok-clause-err g c = missing _ _ _ _ _ c.columns_of.result c.in-Ok.ensures.ok (rw c.text.ensures at c.columns_of.ensures.answer)

pub returns-in-Ok-clause-kind : goal.returns-in-Ok-clause-kind
returns-in-Ok-clause-kind g c = found-count c.columns_of.result c.columns_of.ensures.kind

pub returns-in-Err-clause-kind : goal.returns-in-Err-clause-kind
returns-in-Err-clause-kind g c = device-count c.in-Err.fault c.in-Err.ensures.err
