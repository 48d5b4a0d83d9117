use Rattle.std.proofs.Common.{codes}
use Rattle.command_line.specs.declared.options.TheConstants.{MOST_BATCH}
use Rattle.command_line.specs.CommandLine.{number_option, path}
use Rattle.command_line.proofs.words.with_script.Goals as goal

pub returns : goal.returns
returns c app is =
    let file = c.with_arg-command.ensures app (path (codes "file")) is c.file_path.ensures.rule in
    let script = c.with_arg-command-2.ensures _ (path (codes "script")) file c.path.ensures.rule in
    let options = c.with_options-command.ensures _ script in
    c.with_arg.ensures _ (number_option (codes "batch") MOST_BATCH) options c.number_option.ensures.rule
