use Rattle.command_line.proofs.Codes.{all_listed, begin_with_codes}
use Rattle.command_line.proofs.laws.each_refusal_is_explained.Goals as goal

pub returns-clause-elements : goal.returns-clause-elements
returns-clause-elements c = all_listed

pub returns-clause-start : goal.returns-clause-start
returns-clause-start c = begin_with_codes
