use Rattle.std.proofs.Common.{◌∙◌, ap, arith, length, subst}
use Rattle.std.specs.Prelude.{Ok}
use Rattle.lane_words.specs.Answers.{Answers}
use Rattle.bit_planes.specs.PartitionSet.{PartitionSet, elements}
use Rattle.group_machine.specs.Cluster.{ClusterState, IsValidCluster, cluster_sync_answer}
use Rattle.keycount_c.proofs.Leased.{lease_fits}
use Rattle.keycount_c.proofs.cluster.steps.keycount_cluster_sync.Goals as goal

pub put_elements-requires : goal.put_elements-requires
put_elements-requires c =
    let s = c.in-Some.held.value in
    let fits = lease_fits s c.args.member c.in-Ok.lease (subst IsValidCluster c.deref.ensures c.partitions-room.ensures.valid)
    (subst (λ (t : ClusterState). Answers (cluster_sync_answer t c.args.member) (Ok c.in-Ok.lease)) c.deref_mut.ensures.value c.in-Ok.ensures.answer) in
    let room = c.partitions-room.ensures.count ∙ ap (λ (t : ClusterState). t.group.partitions) c.deref.ensures in
    let all = ap (λ (a : PartitionSet). length (elements a)) c.assigned.ensures in
    omega (arith, fits, room, all, c.if-partitions-room.false)

pub put_starts-requires : goal.put_starts-requires
put_starts-requires c =
    let s = c.in-Some.held.value in
    let fits = lease_fits s c.args.member c.in-Ok.lease (subst IsValidCluster c.deref.ensures c.partitions-room.ensures.valid)
    (subst (λ (t : ClusterState). Answers (cluster_sync_answer t c.args.member) (Ok c.in-Ok.lease)) c.deref_mut.ensures.value c.in-Ok.ensures.answer) in
    let room = c.partitions-room.ensures.count ∙ ap (λ (t : ClusterState). t.group.partitions) c.deref.ensures in
    omega (arith, fits, room, c.if-offsets-room.false)
