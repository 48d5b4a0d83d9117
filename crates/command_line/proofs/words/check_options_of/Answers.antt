use Rattle.std.proofs.Common.{arith, codes}
use Rattle.clap.specs.Words.{found_of, one_text}
use Rattle.clap.proofs.WalkLemmas.{one_text-rows}
use Rattle.command_line.specs.declared.options.TheConstants.{DEFAULT_MOST, MOST_ROWS}
use Rattle.command_line.proofs.Entered.{flag_is, number_in}
use Rattle.command_line.proofs.words.check_options_of.Goals as goal

pub returns : goal.returns
returns c =
    let found = found_of c.args.given.now in
    record {
      plan = rw (← one_text-rows found (codes "plan")) (flag_is (one_text found (codes "plan")) c.get_flag.result c.get_flag.ensures.none c.get_flag.ensures.value c.get_flag.ensures.other);
      most = c.number_of.ensures;
      in_range = (number_in _ DEFAULT_MOST MOST_ROWS _ (omega arith, omega arith) c.requires.most c.number_of.ensures).0;
    }
