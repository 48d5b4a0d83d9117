use Rattle.std.proofs.Common.{codes}
use Rattle.lane_words.specs.declared.limits.TheConstants.{MOST_PARTITIONS}
use Rattle.command_line.specs.CommandLine.{flag, number_option, text_option}
use Rattle.command_line.proofs.words.with_options.Goals as goal

pub returns : goal.returns
returns c app is =
    let one = c.with_arg-command.ensures app (number_option (codes "partitions") MOST_PARTITIONS) is c.number_option-partitions.ensures.rule in
    let two = c.with_arg-command-2.ensures _ (text_option (codes "column")) one c.text_option.ensures.rule in
    let three = c.with_arg-command-3.ensures _ (flag (codes "header")) two c.flag.ensures.rule in
    let four = c.with_arg-command-4.ensures _ (text_option (codes "topics")) three c.text_option-2.ensures.rule in
    let five = c.with_arg-command-5.ensures _ (text_option (codes "topic-column")) four c.text_option-topic_column.ensures.rule in
    c.with_arg.ensures _ (text_option (codes "delimiter")) five c.text_option-3.ensures.rule
