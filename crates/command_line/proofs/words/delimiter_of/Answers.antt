use Rattle.std.proofs.Common.{◌≡◌, ◌∙◌, None, Some, codes, sym, refl, rules}
use Rattle.clap.specs.Words.{found_of, rows_of, first_of, first_value}
use Rattle.clap.proofs.WalkLemmas.{first_value-rows}
use Rattle.command_line.proofs.Entered.{reports_bad_delimiter}
use Rattle.command_line.proofs.words.delimiter_of.Goals as goal

pub returns-in_default-clause-delimiter : goal.returns-in_default-clause-delimiter
returns-in_default-clause-delimiter c =
    let found = found_of c.args.given.now in
    let missing : first_value found (codes "delimiter") ≡ None = search rules in
    let none : first_of (codes "delimiter") (rows_of found) ≡ None = sym (first_value-rows found (codes "delimiter")) ∙ missing in
    rw none refl

pub returns-in-Some-parse_delimiter-clause-delimiter : goal.returns-in-Some-parse_delimiter-clause-delimiter
returns-in-Some-parse_delimiter-clause-delimiter c =
    let found = found_of c.args.given.now in
    let text : first_of (codes "delimiter") (rows_of found) ≡ Some c.in-Some.text.now = sym (first_value-rows found (codes "delimiter")) ∙ sym c.in-Some.ensures in
    rw text (sym c.in-Some-parse_delimiter.ensures)

pub returns-in-None-clause-fault : goal.returns-in-None-clause-fault
returns-in-None-clause-fault c =
    let found = found_of c.args.given.now in
    let text : first_of (codes "delimiter") (rows_of found) ≡ Some c.in-Some.text.now = sym (first_value-rows found (codes "delimiter")) ∙ sym c.in-Some.ensures in
    reports_bad_delimiter (first_of (codes "delimiter") (rows_of found)) c.bad_value_usage.result (rw text (sym c.in-None.ensures)) c.bad_value_usage.ensures
