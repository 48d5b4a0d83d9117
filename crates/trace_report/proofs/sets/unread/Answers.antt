use Rattle.std.proofs.Common.{◌≡◌, ◌∙◌, ℕ, ap, rules}
use Rattle.std.specs.Prelude.{nat_lt}
use Rattle.group_machine.specs.Cluster.{ClusterState}
use Rattle.bit_planes.specs.PartitionSet.{partitions_of}
use Rattle.trace_report.proofs.SetTexts.{unread_is}
use Rattle.trace_report.proofs.sets.unread.Goals as goal

pub returns : goal.returns
returns c =
    let all : c.partitions.result ≡ c.args.world.now.cluster.group.partitions = c.partitions.ensures.count ∙ ap (λ (s : ClusterState). s.group.partitions) c.cluster.ensures.cluster in
    unread_is c.args.world.now c.full-unread.result c.read_by_members.result c.remove_all.new.self (c.remove_all.ensures.partitions ∙ c.full-unread.ensures.partitions ∙ all)
    (λ q. c.full-unread.ensures.elements q ∙ ap (nat_lt q) all) c.read_by_members.ensures c.remove_all.ensures.elements
