use Rattle.std.proofs.Common.{◌∙◌, rules}
use Rattle.std.proofs.lemmas.Result.{IfOk-weaker}
use Rattle.group_machine.proofs.ClusterLemmas.{no_counters}
use Rattle.group_machine.proofs.cluster.Cluster.with_topics.Goals as goal

pub returns-clause-counters : goal.returns-clause-counters
returns-clause-counters g c = IfOk-weaker c.over.result _ _ (λ cluster none. none ∙ no_counters c.in_ok-logs.logs c.in_ok-logs.ensures.empty) c.over.ensures.counters

pub returns-clause-group : goal.returns-clause-group
returns-clause-group g c = search rules

pub returns-clause-counts : goal.returns-clause-counts
returns-clause-counts g c = search rules
