use Rattle.std.proofs.Common.{◌∙◌, length, sym, ap}
use Rattle.bit_planes.specs.PartitionSet.{partitions_of}
use Rattle.group_machine.specs.Private.GroupView.{group_view}
use Rattle.group_machine.proofs.ClusterLemmas.{assigned_over}
use Rattle.group_machine.proofs.cluster.Cluster.lease.Goals as goal

pub invariant_of-result : goal.invariant_of-result
invariant_of-result c =
    let offsets = c.in_ok-starts.ensures.items ∙ c.offsets.ensures in
    let assigned = c.copy-assigned.ensures ∙ c.in_ok-leasable.ensures.ok.1 in
    ap length offsets ∙ c.self.invariant.store_partitions ∙ sym (ap partitions_of assigned ∙ assigned_over (group_view c.self.inside.group) c.self.invariant.group.consistent c.args.member)
