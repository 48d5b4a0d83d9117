use Rattle.std.proofs.Common.{◌≡◌, ◌∙◌, None, Some, sym, refl, rules}
use Rattle.clap.specs.Words.{found_of, rows_of, first_of, first_value}
use Rattle.clap.proofs.WalkLemmas.{first_value-rows}
use Rattle.command_line.proofs.Entered.{reports_bad_column}
use Rattle.command_line.proofs.words.column_of.Goals as goal

pub returns-in_default-clause-column : goal.returns-in_default-clause-column
returns-in_default-clause-column c =
    let found = found_of c.args.given.now in
    let missing : first_value found c.args.id.now ≡ None = search rules in
    let none : first_of c.args.id.now (rows_of found) ≡ None = sym (first_value-rows found c.args.id.now) ∙ missing in
    rw none refl

pub returns-in-Ok-Some-clause-column : goal.returns-in-Ok-Some-clause-column
returns-in-Ok-Some-clause-column c =
    let found = found_of c.args.given.now in
    let text : first_of c.args.id.now (rows_of found) ≡ Some c.in-Some.text.now = sym (first_value-rows found c.args.id.now) ∙ sym c.in-Some.ensures in
    let parsed = rw c.in-Ok-Some.field-0-is at c.in-Ok-Some.ensures in
    rw text parsed

pub returns-in-Ok-None-clause-fault : goal.returns-in-Ok-None-clause-fault
returns-in-Ok-None-clause-fault c =
    let found = found_of c.args.given.now in
    let text : first_of c.args.id.now (rows_of found) ≡ Some c.in-Some.text.now = sym (first_value-rows found c.args.id.now) ∙ sym c.in-Some.ensures in
    let parsed = rw c.in-Ok-None.field-0-is at c.in-Ok-None.ensures in
    reports_bad_column c.args.header (first_of c.args.id.now (rows_of found)) c.bad_value_usage.result (rw text parsed) c.bad_value_usage.ensures
