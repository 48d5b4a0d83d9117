use Rattle.group_laws.proofs.TakeOverLemmas.{static_join_leaves, static_join_brings, static_join_is_static}
use Rattle.group_laws.proofs.laws.static_join_is_a_join.Goals as goal

pub returns-clause-others : goal.returns-clause-others
returns-clause-others c g name a = static_join_leaves g name a.number a.valid a.accepted

pub returns-clause-newcomer : goal.returns-clause-newcomer
returns-clause-newcomer c g name a = static_join_brings g name a.number a.valid a.accepted

pub returns-clause-value : goal.returns-clause-value
returns-clause-value c g name a = static_join_is_static g name a.number a.valid a.accepted
