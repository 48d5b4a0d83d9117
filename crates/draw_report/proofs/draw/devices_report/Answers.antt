use Rattle.std.proofs.Common.{rules, ◌≡◌, Err, List, ℕ, Ok, subst}
use Rattle.std.specs.Prelude.{IfSome}
use Rattle.draw_report.specs.DrawReport.{picture_of_records}
use Rattle.ingest.specs.Records.{records_of}
use Rattle.ingest.specs.Reports.{IsFaultOf, report_of_read}
use Rattle.partitioner.specs.declared.topic.Topic.{Topic}
use Rattle.script.specs.Replay.{read_answer_in}
use Rattle.ingest.proofs.Made.{made}
use Rattle.draw_report.proofs.Drawn.{text-fault, text-known}
use Rattle.draw_report.proofs.draw.devices_report.Goals as goal

pub returns-in_err-text-clause-report : goal.returns-in_err-text-clause-report
returns-in_err-text-clause-report g c =
    let options = c.args.options.now in
    let fault = c.in_err-text.field-0.0 in
    let read = c.in_ok-records.records.records in
    let left = g.T.Source.left c.args.script.now in
    let bad : IfSome left (λ bytes. IsFaultOf (read_answer_in options.topics.items bytes) fault) =
    subst (λ (topics : List Topic). IfSome left (λ bytes. IsFaultOf (read_answer_in topics bytes) fault)) c.as_slice.ensures.value c.in_err-text.ensures.fault in
    let same : c.from_residual-in_err-text.result ≡ Err fault = search rules in
    rw same (made IsFaultOf (records_of options) (λ records script. report_of_read (picture_of_records options script records) (read_answer_in options.topics.items script)) (g.S.Source.left c.args.file.now) left read
    (Err fault) c.in_ok-records.ensures.records (text-fault (read_answer_in options.topics.items) (λ script. picture_of_records options script read) left fault bad))

pub returns-clause-report : goal.returns-clause-report
returns-clause-report g c =
    let options = c.args.options.now in
    let read = c.in_ok-records.records.records in
    let left = g.T.Source.left c.args.script.now in
    let text = c.in_ok-text.text.items in
    let lines = c.in_ok-text.lines.items in
    let known : IfSome left (λ bytes. read_answer_in options.topics.items bytes ≡ Ok lines) =
    subst (λ (topics : List Topic). IfSome left (λ bytes. read_answer_in topics bytes ≡ Ok lines)) c.as_slice.ensures.value c.in_ok-text.ensures.lines in
    made IsFaultOf (records_of options) (λ records script. report_of_read (picture_of_records options script records) (read_answer_in options.topics.items script)) (g.S.Source.left c.args.file.now) left read
    c.picture_of_records.result c.in_ok-records.ensures.records
    (text-known (read_answer_in options.topics.items) (λ script. picture_of_records options script read) left text lines c.picture_of_records.result c.in_ok-text.ensures.text known
    (rw (c.deref.ensures.value, c.deref-2.ensures.value) at c.picture_of_records.ensures.answer) c.picture_of_records.ensures.kind)
