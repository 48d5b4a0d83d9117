use Rattle.std.proofs.Common.{ap}
use Rattle.group_machine.specs.Private.ClusterView.{cluster_view}
use Rattle.group_machine.specs.Private.GroupView.{group_view}
use Rattle.group_machine.proofs.ClusterLemmas.{regrouped}
use Rattle.group_machine.proofs.cluster.Cluster.sync.Goals as goal

pub invariant_of-self : goal.invariant_of-self
invariant_of-self c =
    let step = c.mark_synced.ensures in
    regrouped (cluster_view c.self.inside) (group_view c.mark_synced.new.self) c.self.invariant step.valid (ap (λ g. g.partitions) step.state)
