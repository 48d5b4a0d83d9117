use Rattle.std.proofs.Common.{◌≡◌, ◌<◌, true, arith, length}
use Rattle.std.proofs.lemmas.Bool.Decides.{nat_tests}
use Rattle.std.specs.Char.{is_ascii_digit}
use Rattle.std.specs.List.{list_all}
use Rattle.script.proofs.Numbers.{digits_are_text, number-read}
use Rattle.script.proofs.words.number_of.Goals as goal

pub returns-in_default : goal.returns-in_default
returns-in_default c =
    let digits : list_all is_ascii_digit c.args.word.now ≡ true = grind (arith, nat_tests) in
    absurd (c.in_default.ensures.cases.0 (digits_are_text c.args.word.now digits))

pub returns : goal.returns
returns c =
    let digits : list_all is_ascii_digit c.args.word.now ≡ true = grind (arith, nat_tests) in
    let some : 0 < length c.args.word.now = grind (arith, nat_tests) in
    let parses = rw c.in-Ok.ensures.cases.0 at c.parse.ensures.value.0 in
    rw c.ok.ensures.value (number-read c.args.word.now c.parse.result parses digits some (omega arith))
