use Rattle.std.proofs.Common.{◌≡◌, Ok, rules}
use Rattle.group_machine.specs.Cluster.{fence}
use Rattle.group_machine.specs.Private.ClusterView.{cluster_view}
use Rattle.group_machine.specs.Private.GroupView.{group_view}
use Rattle.group_machine.proofs.ClusterLemmas.{partition-below, commit-valid}
use Rattle.group_machine.proofs.cluster.Cluster.commit.Goals as goal

pub commit-requires-clause-partition : goal.commit-requires-clause-partition
commit-requires-clause-partition c =
    let old = cluster_view c.self.inside in
    let through : fence old.group c.args.commit.now ≡ Ok tt = search rules in
    rw c.partition.ensures (partition-below old c.args.commit.now c.self.invariant through)

pub invariant_of-self : goal.invariant_of-self
invariant_of-self c =
    let step = c.commit.ensures in
    commit-valid (group_view c.self.inside.group) c.self.inside.logs c.self.inside.store c.commit.new.self c.partition.result c.partial.result.now c.commit.result c.self.invariant step.ok step.err step.valid
