use Rattle.std.proofs.Common.{codes}
use Rattle.command_line.specs.CommandLine.{flag, number_option, value_argument}
use Rattle.command_line.specs.declared.options.TheConstants.{MOST_ROWS}
use Rattle.command_line.proofs.words.check_command.Goals as goal

pub returns : goal.returns
returns c =
    let script = c.with_arg.ensures _ (value_argument (codes "script")) c.file_command-command.ensures c.value_argument-script.ensures.rule in
    let options = c.with_options-command.ensures _ script in
    let plan = c.with_arg-command.ensures _ (flag (codes "plan")) options c.flag.ensures.rule in
    c.with_arg-2.ensures _ (number_option (codes "most") MOST_ROWS) plan c.number_option.ensures.rule
