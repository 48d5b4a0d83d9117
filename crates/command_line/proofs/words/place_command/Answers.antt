use Rattle.std.proofs.Common.{codes}
use Rattle.command_line.specs.CommandLine.{flag, number_option}
use Rattle.command_line.specs.declared.options.TheConstants.{LAST_COLUMN}
use Rattle.command_line.proofs.words.place_command.Goals as goal

pub returns : goal.returns
returns c =
    let options = c.with_options-command.ensures _ c.file_command-command.ensures in
    let keys = c.with_arg-command.ensures _ (flag (codes "keys")) options c.flag.ensures.rule in
    c.with_arg.ensures _ (number_option (codes "given") LAST_COLUMN) keys c.number_option.ensures.rule
