use Rattle.command_line.specs.CommandLine.{check_app, count_app, draw_app, explain_app, place_app, replay_app, run_app, trace_app}
use Rattle.command_line.proofs.words.keycount_command.Goals as goal

pub returns : goal.returns
returns c =
    let one = c.with_subcommand-command.ensures _ count_app c.top_command.ensures c.count_command.ensures in
    let two = c.with_subcommand-command-2.ensures _ place_app one c.place_command.ensures in
    let three = c.with_subcommand-command-3.ensures _ replay_app two c.replay_command.ensures in
    let four = c.with_subcommand-command-4.ensures _ trace_app three c.trace_command.ensures in
    let five = c.with_subcommand-command-5.ensures _ draw_app four c.draw_command.ensures in
    let six = c.with_subcommand-command-6.ensures _ run_app five c.run_command.ensures in
    let seven = c.with_subcommand-command-7.ensures _ check_app six c.check_command.ensures in
    c.with_subcommand.ensures _ explain_app seven c.explain_command.ensures
