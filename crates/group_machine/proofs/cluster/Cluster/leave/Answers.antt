use Rattle.std.proofs.Common.{refl}
use Rattle.group_machine.specs.Private.ClusterView.{cluster_view}
use Rattle.group_machine.specs.Private.GroupView.{group_view}
use Rattle.group_machine.specs.Steps.{leaving}
use Rattle.group_machine.proofs.ClusterLemmas.{regrouped, stepped_partitions}
use Rattle.group_machine.proofs.cluster.Cluster.leave.Goals as goal

pub invariant_of-self : goal.invariant_of-self
invariant_of-self c =
    let old = group_view c.self.inside.group in
    let new = group_view c.leave.new.self in
    let step = c.leave.ensures in
    regrouped (cluster_view c.self.inside) new c.self.invariant step.valid (stepped_partitions old new (leaving old c.args.member) c.leave.result step.ok step.err refl)
