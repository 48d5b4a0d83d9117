use Rattle.ingest.proofs.CountedFile.{file-err, file-ok}
use Rattle.ingest.proofs.Failures.{counted-stop, counted-write}
use Rattle.ingest.proofs.counted.count_file.Goals as goal

pub returns-in-Ok-clause-ok : goal.returns-in-Ok-clause-ok
returns-in-Ok-clause-ok g c = file-ok _ _ _ _ _ _ _ _ c.count_columns.result c.in-Ok.ensures.ok c.count_columns.ensures.ok

pub returns-in-Ok-clause-err : goal.returns-in-Ok-clause-err
returns-in-Ok-clause-err g c = file-err _ _ _ _ _ _ c.count_columns.result c.in-Ok.ensures.ok c.count_columns.ensures.err

pub returns-in-Ok-clause-kind : goal.returns-in-Ok-clause-kind
returns-in-Ok-clause-kind g c = counted-write c.count_columns.result c.count_columns.ensures.kind

pub returns-in-Ok-clause-unstopped : goal.returns-in-Ok-clause-unstopped
returns-in-Ok-clause-unstopped g c = counted-stop c.count_columns.result c.count_columns.ensures.kind
