use Rattle.std.proofs.Common.{◌≡◌, ◌∙◌, length, rules, sym, refl, Some, None}
use Rattle.csv.specs.Records.{field_at, fields_of}
use Rattle.check_report.proofs.Fields.{alone, not_none}
use Rattle.check_report.proofs.warnings.delimiter_words.Goals as goal

pub returns-in_default : goal.returns-in_default
returns-in_default c =
    let one : length (fields_of c.args.row.now) ≡ 1 = search rules in
    let none : field_at (fields_of c.args.row.now) 0 ≡ None = search rules in
    absurd (not_none (fields_of c.args.row.now) one none)

pub returns-then-has_byte : goal.returns-then-has_byte
returns-then-has_byte c =
    let one : length (fields_of c.args.row.now) ≡ 1 = search rules in
    let there : field_at (fields_of c.args.row.now) 0 ≡ Some c.in-Some.field.now = search rules in
    let tab = sym c.has_byte.ensures ∙ c.if-has_byte.true in
    rw (alone (fields_of c.args.row.now) c.in-Some.field.now one there) (rw tab refl)

pub returns-then-has_byte-2 : goal.returns-then-has_byte-2
returns-then-has_byte-2 c =
    let one : length (fields_of c.args.row.now) ≡ 1 = search rules in
    let there : field_at (fields_of c.args.row.now) 0 ≡ Some c.in-Some.field.now = search rules in
    let tab = sym c.has_byte.ensures ∙ c.if-has_byte.false in
    let semicolon = sym c.has_byte-else-has_byte.ensures ∙ c.if-has_byte-2.true in
    rw (alone (fields_of c.args.row.now) c.in-Some.field.now one there) (rw (tab, semicolon) refl)

pub returns-else-has_byte-2 : goal.returns-else-has_byte-2
returns-else-has_byte-2 c =
    let one : length (fields_of c.args.row.now) ≡ 1 = search rules in
    let there : field_at (fields_of c.args.row.now) 0 ≡ Some c.in-Some.field.now = search rules in
    let tab = sym c.has_byte.ensures ∙ c.if-has_byte.false in
    let semicolon = sym c.has_byte-else-has_byte.ensures ∙ c.if-has_byte-2.false in
    rw (alone (fields_of c.args.row.now) c.in-Some.field.now one there) (rw (tab, semicolon) refl)
