use Rattle.std.proofs.Common.{refl}
use Rattle.group_machine.specs.Private.ClusterView.{cluster_view}
use Rattle.group_machine.specs.Private.GroupView.{group_view}
use Rattle.group_machine.specs.Steps.{joining}
use Rattle.group_machine.proofs.ClusterLemmas.{regrouped, stepped_partitions}
use Rattle.group_machine.proofs.cluster.Cluster.join.Goals as goal

pub invariant_of-self : goal.invariant_of-self
invariant_of-self c =
    let old = group_view c.self.inside.group in
    let new = group_view c.join.new.self in
    let step = c.join.ensures in
    regrouped (cluster_view c.self.inside) new c.self.invariant step.valid (stepped_partitions old new (joining old c.args.name) c.join.result step.ok step.err refl)
