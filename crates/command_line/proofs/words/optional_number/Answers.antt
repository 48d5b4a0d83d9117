use Rattle.std.proofs.Common.{◌≡◌, ◌∙◌, ap, sym, refl, None, Some, List, ℕ, Bor}
use Rattle.std.specs.Prelude.{option_map}
use Rattle.clap.specs.Words.{found_of, rows_of, first_of}
use Rattle.clap.proofs.WalkLemmas.{first_value-rows}
use Rattle.command_line.proofs.words.optional_number.Goals as goal

pub returns-in_err-get_str : goal.returns-in_err-get_str
returns-in_err-get_str c =
    let found = found_of c.args.given.now in
    let none : first_of c.args.id.now (rows_of found) ≡ None = sym (first_value-rows found c.args.id.now) ∙ sym c.get_str.ensures ∙ ap (option_map (λ (s : Bor (List ℕ)). s.now)) c.in_err-get_str.was in
    rw none c.from_residual.ensures

pub returns : goal.returns
returns c =
    let found = found_of c.args.given.now in
    let text : first_of c.args.id.now (rows_of found) ≡ Some c.in_ok-get_str.field-0.now = sym (first_value-rows found c.args.id.now) ∙ sym c.get_str.ensures ∙ ap (option_map (λ (s : Bor (List ℕ)). s.now)) c.in_ok-get_str.was in
    let number = rw text at c.number_of.ensures in
    rw text (c.number_of.result, refl, number)
