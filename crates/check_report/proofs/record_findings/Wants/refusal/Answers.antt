use Rattle.std.proofs.Common.{◌≡◌, ◌≢◌, arith, length, rules, sym}
use Rattle.csv.specs.Records.{fields_of}
use Rattle.csv_ingest.specs.declared.lack.Lack.TheVariants as l
use Rattle.check_report.proofs.Fields.{refusal-lack, refusal-long, refusal-none, refusal-width}
use Rattle.check_report.proofs.record_findings.Wants.refusal.Goals as goal

pub returns-then-len-width : goal.returns-then-len-width
returns-then-len-width c =
    let other : length (fields_of c.args.row.now) ≢ c.args.width = search rules in
    sym (refusal-width c.args.self.now c.args.width c.args.nth (fields_of c.args.row.now) other)

pub returns-in-Err-Column : goal.returns-in-Err-Column
returns-in-Err-Column c =
    let same : length (fields_of c.args.row.now) ≡ c.args.width = search rules in
    sym (refusal-lack c.args.self.now c.args.width c.args.nth (fields_of c.args.row.now) l.Column same (rw c.in-Err-Column.field-0-is at c.in-Err-Column.ensures.err))

pub returns-in-Err-Topic : goal.returns-in-Err-Topic
returns-in-Err-Topic c =
    let same : length (fields_of c.args.row.now) ≡ c.args.width = search rules in
    sym (refusal-lack c.args.self.now c.args.width c.args.nth (fields_of c.args.row.now) l.Topic same (rw c.in-Err-Topic.field-0-is at c.in-Err-Topic.ensures.err))

pub returns-then-bytes-gt-LONGEST_KEY : goal.returns-then-bytes-gt-LONGEST_KEY
returns-then-bytes-gt-LONGEST_KEY c =
    let same : length (fields_of c.args.row.now) ≡ c.args.width = search rules in
    sym (refusal-long c.args.self.now c.args.width c.args.nth (fields_of c.args.row.now) c.in-Ok.bytes same c.in-Ok.ensures.ok (omega (arith, c.if-bytes-gt-LONGEST_KEY.true)))

pub returns-else-bytes-gt-LONGEST_KEY : goal.returns-else-bytes-gt-LONGEST_KEY
returns-else-bytes-gt-LONGEST_KEY c =
    let same : length (fields_of c.args.row.now) ≡ c.args.width = search rules in
    sym (refusal-none c.args.self.now c.args.width c.args.nth (fields_of c.args.row.now) c.in-Ok.bytes same c.in-Ok.ensures.ok (omega (arith, c.if-bytes-gt-LONGEST_KEY.false)))
