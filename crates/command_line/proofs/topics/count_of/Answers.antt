use Rattle.std.proofs.Common.{◌≡◌, true, sym, arith}
use Rattle.std.proofs.lemmas.Bool.Decides.{nat_tests}
use Rattle.std.specs.Char.{is_ascii_digit}
use Rattle.std.specs.List.{list_all}
use Rattle.command_line.proofs.TopicLists.{no_count}
use Rattle.command_line.proofs.topics.count_of.Goals as goal

pub returns-in_default : goal.returns-in_default
returns-in_default c =
    let all : list_all is_ascii_digit c.args.digits.now ≡ true = grind (arith, nat_tests) in
    sym (no_count c.args.digits.now c.in_default.field-0 c.in_default.ensures.value.0 all)
