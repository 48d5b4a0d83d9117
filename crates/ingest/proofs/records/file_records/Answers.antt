use Rattle.ingest.proofs.Kept.{read-for, records-are}
use Rattle.ingest.proofs.records.file_records.Goals as goal

pub returns-in_ok-of-in-Ok-count_file-clause-records : goal.returns-in_ok-of-in-Ok-count_file-clause-records
returns-in_ok-of-in-Ok-count_file-clause-records g c =
    records-are c.args.options.now _ _ _ c.in-Ok-count_file.refusal c.in_ok-of-in-Ok-count_file.field-0 (λ left left2 file. c.in_ok-of-in-Ok-count_file.ensures left left2 file) c.in-Ok-count_file.ensures.ok

pub returns-in_ok-of-in-Ok-count_file-clause-topics : goal.returns-in_ok-of-in-Ok-count_file-clause-topics
returns-in_ok-of-in-Ok-count_file-clause-topics g c =
    read-for c.args.options.now _ _ _ c.in-Ok-count_file.refusal c.in_ok-of-in-Ok-count_file.field-0 (λ left left2 file. c.in_ok-of-in-Ok-count_file.ensures left left2 file) c.in-Ok-count_file.ensures.ok
