use Rattle.std.proofs.Common.{◌≡◌, ◌∙◌, None, Some, arith, rules, sym}
use Rattle.std.specs.Str.{bytes_eq}
use Rattle.csv.specs.Records.{field_at, fields_of}
use Rattle.csv_ingest.proofs.Headers.{field-here, field-other, field-there}
use Rattle.csv_ingest.proofs.header.field_named.Goals as goal

pub returns-in_default-clause-value : goal.returns-in_default-clause-value
returns-in_default-clause-value c =
    let there = field-there (fields_of c.args.row.now) c.loop-i.i (omega (arith, c.len.ensures, c.min-fields.ensures)) in
    let missing : field_at (fields_of c.args.row.now) c.loop-i.i ≡ None = search rules in
    absurd (cc (sym missing ∙ there))

pub returns-then-eq-clause-value : goal.returns-then-eq-clause-value
returns-then-eq-clause-value c =
    let at : field_at (fields_of c.args.row.now) c.loop-i.i ≡ Some c.in-Some.field.now = search rules in
    sym (c.loop-i.invariant ∙ field-here (bytes_eq c.args.name.now) c.args.most c.loop-i.i (fields_of c.args.row.now) c.in-Some.field.now
    (omega (arith, c.len.ensures, c.min-fields.ensures)) (omega (arith, c.len.ensures, c.min-fields.ensures)) at (sym c.eq.ensures ∙ c.if-eq.true))

pub loop-i-preserved : goal.loop-i-preserved
loop-i-preserved c =
    let at : field_at (fields_of c.args.row.now) c.loop-i.i ≡ Some c.in-Some.field.now = search rules in
    c.loop-i.invariant ∙ field-other (bytes_eq c.args.name.now) c.args.most c.loop-i.i (fields_of c.args.row.now) c.in-Some.field.now
    (omega (arith, c.len.ensures, c.min-fields.ensures)) (omega (arith, c.len.ensures, c.min-fields.ensures)) at (sym c.eq.ensures ∙ c.if-eq.false)
