use Rattle.place_report.proofs.Read.{as_many, both-seen}
use Rattle.place_report.proofs.given.read_both.Goals as goal

pub returns-clause-answer : goal.returns-clause-answer
returns-clause-answer g c =
    let file = c.args.file.now in
    let records = c.records_in_memory-records in
    let texts = c.records_in_memory-texts in
    both-seen c.args.options.now c.args.given file _ c.both.result records.result texts.result (c.options_for.ensures.records file) c.both.ensures.value records.ensures.answer texts.ensures.answer

pub returns-clause-len : goal.returns-clause-len
returns-clause-len g c =
    let file = c.args.file.now in
    let records = c.records_in_memory-records in
    let texts = c.records_in_memory-texts in
    as_many c.args.options.now c.args.given file _ c.both.result records.result texts.result (c.options_for.ensures.records file) c.both.ensures.value records.ensures.answer texts.ensures.answer
