use Rattle.std.proofs.Common.{◌≡◌, ◌∙◌, None, Some, sym, refl, rules, subst, arith, Option, List, ℕ}
use Rattle.clap.specs.Words.{found_of, rows_of, first_of, first_value}
use Rattle.clap.proofs.WalkLemmas.{first_value-rows}
use Rattle.command_line.specs.Private.CommandLine.{IsOptionalNumber}
use Rattle.command_line.proofs.Entered.{unsigned_of}
use Rattle.command_line.proofs.words.number_of.Goals as goal

pub returns-in_default : goal.returns-in_default
returns-in_default c =
    let found = found_of c.args.given.now in
    let missing : first_value found c.args.id.now ≡ None = search rules in
    let none : first_of c.args.id.now (rows_of found) ≡ None = sym (first_value-rows found c.args.id.now) ∙ missing in
    rw none refl

pub unreachable-requires : goal.unreachable-requires
unreachable-requires c =
    let found = found_of c.args.given.now in
    let text : first_of c.args.id.now (rows_of found) ≡ Some c.in-Some.text.now = sym (first_value-rows found c.args.id.now) ∙ sym c.in-Some.ensures in
    let number = unsigned_of 4294967295 c.in-Some.text.now (subst (λ (o : Option (List ℕ)). IsOptionalNumber o 4294967295) text c.requires) in
    c.in_default-parse.ensures.value.0 (number.0, omega arith)

pub returns : goal.returns
returns c =
    let found = found_of c.args.given.now in
    let text : first_of c.args.id.now (rows_of found) ≡ Some c.in-Some.text.now = sym (first_value-rows found c.args.id.now) ∙ sym c.in-Some.ensures in
    rw text c.in-Ok.ensures.value.0
