use Rattle.std.proofs.Common.{◌≡◌, ◌∙◌, None, sym, rules, subst, Option, List, ℕ, IsSome, true≢false}
use Rattle.clap.specs.Words.{found_of, rows_of, first_of, first_value}
use Rattle.clap.proofs.WalkLemmas.{first_value-rows}
use Rattle.command_line.proofs.words.text_of.Goals as goal

pub unreachable-requires : goal.unreachable-requires
unreachable-requires c =
    let found = found_of c.args.given.now in
    let missing : first_value found c.args.id.now ≡ None = search rules in
    let none : first_of c.args.id.now (rows_of found) ≡ None = sym (first_value-rows found c.args.id.now) ∙ missing in
    absurd (true≢false (sym (subst (λ (o : Option (List ℕ)). IsSome o) none c.requires)))

pub returns : goal.returns
returns c = sym (first_value-rows (found_of c.args.given.now) c.args.id.now) ∙ sym c.in-Some.ensures
