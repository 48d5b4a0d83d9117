use Rattle.std.proofs.Common.{rules}
use Rattle.script.specs.Replay.{is_bad, parse_action}
use Rattle.script.specs.Replay.{parse_action_answer}
use Rattle.script.proofs.lines.parse_action.Goals as goal

pub returns : goal.returns
unfolding parse_action_answer is_bad parse_action
returns c = search rules

pub returns-then-is_empty : goal.returns-then-is_empty
unfolding parse_action_answer is_bad parse_action
returns-then-is_empty c = search rules

pub returns-then-line-gt-LONGEST_LINE : goal.returns-then-line-gt-LONGEST_LINE
unfolding parse_action_answer is_bad parse_action
returns-then-line-gt-LONGEST_LINE c = search rules

pub returns-in_default : goal.returns-in_default
unfolding parse_action_answer is_bad parse_action
returns-in_default c = search rules
