use Rattle.std.proofs.Common.{rules, ◌≡◌, Err, List, ℕ, Ok, subst}
use Rattle.std.specs.Prelude.{IfSome}
use Rattle.ingest.specs.Records.{records_of}
use Rattle.ingest.specs.Reports.{IsFaultOf, report_of_read}
use Rattle.partitioner.specs.declared.topic.Topic.{Topic}
use Rattle.script.specs.Replay.{read_answer_in}
use Rattle.trace_report.specs.TraceReport.{trace_of_records}
use Rattle.ingest.proofs.Made.{made, script-fault, script-known}
use Rattle.trace_report.proofs.trace.text_of_devices.Goals as goal

pub returns-in_err-lines-clause-report : goal.returns-in_err-lines-clause-report
returns-in_err-lines-clause-report g c =
    let options = c.args.options.now in
    let fault = c.in_err-lines.field-0.0 in
    let read = c.in_ok-records.records.records in
    let left = g.T.Source.left c.args.script.now in
    let bad : IfSome left (λ bytes. IsFaultOf (read_answer_in options.topics.items bytes) fault) =
    subst (λ (topics : List Topic). IfSome left (λ bytes. IsFaultOf (read_answer_in topics bytes) fault)) c.as_slice.ensures.value c.in_err-lines.ensures.fault in
    let same : c.from_residual-in_err-lines.result ≡ Err fault = search rules in
    rw same (made IsFaultOf (records_of options) (λ records script. report_of_read (trace_of_records options records) (read_answer_in options.topics.items script)) (g.S.Source.left c.args.file.now) left read
    (Err fault) c.in_ok-records.ensures.records (script-fault (read_answer_in options.topics.items) (trace_of_records options read) left fault bad))

pub returns-clause-report : goal.returns-clause-report
returns-clause-report g c =
    let options = c.args.options.now in
    let read = c.in_ok-records.records.records in
    let left = g.T.Source.left c.args.script.now in
    let lines = c.in_ok-lines.lines.items in
    let known : IfSome left (λ bytes. read_answer_in options.topics.items bytes ≡ Ok lines) =
    subst (λ (topics : List Topic). IfSome left (λ bytes. read_answer_in topics bytes ≡ Ok lines)) c.as_slice.ensures.value c.in_ok-lines.ensures.lines in
    made IsFaultOf (records_of options) (λ records script. report_of_read (trace_of_records options records) (read_answer_in options.topics.items script)) (g.S.Source.left c.args.file.now) left read
    c.text_of_records.result c.in_ok-records.ensures.records
    (script-known (read_answer_in options.topics.items) (trace_of_records options read) left lines c.text_of_records.result known
    (rw c.as_slice-2.ensures.value at c.text_of_records.ensures.answer) c.text_of_records.ensures.kind)
