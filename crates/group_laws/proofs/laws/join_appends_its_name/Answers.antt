use Rattle.group_laws.proofs.ResultFacts.{joined_names, joined_stays}
use Rattle.group_machine.proofs.JoinLemmas.{joined_newcomer}
use Rattle.group_laws.proofs.laws.join_appends_its_name.Goals as goal

pub returns-clause-names : goal.returns-clause-names
returns-clause-names c = joined_names

pub returns-clause-present : goal.returns-clause-present
returns-clause-present c = joined_stays

pub returns-clause-newcomer : goal.returns-clause-newcomer
returns-clause-newcomer c = joined_newcomer
