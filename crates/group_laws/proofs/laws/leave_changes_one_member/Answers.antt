use Rattle.group_laws.proofs.ResultFacts.{left_names, left_others}
use Rattle.group_laws.proofs.laws.leave_changes_one_member.Goals as goal

pub returns-clause-names : goal.returns-clause-names
returns-clause-names c = left_names

pub returns-clause-others : goal.returns-clause-others
returns-clause-others c = left_others
