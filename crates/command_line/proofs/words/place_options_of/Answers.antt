use Rattle.std.proofs.Common.{codes}
use Rattle.clap.specs.Words.{found_of, one_text}
use Rattle.clap.proofs.WalkLemmas.{one_text-rows}
use Rattle.command_line.proofs.Entered.{flag_is, number_if_given}
use Rattle.command_line.proofs.words.place_options_of.Goals as goal

pub returns : goal.returns
returns c =
    let found = found_of c.args.given.now in
    record {
      keys = rw (← one_text-rows found (codes "keys")) (flag_is (one_text found (codes "keys")) c.get_flag.result c.get_flag.ensures.none c.get_flag.ensures.value c.get_flag.ensures.other);
      given = c.optional_number.ensures;
      in_range = number_if_given _ 65535 _ c.requires.given c.optional_number.ensures;
    }
