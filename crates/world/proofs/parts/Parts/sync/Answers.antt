use Rattle.std.proofs.Common.{◌≡◌, ◌∙◌, suc, Some, ap, slice_index_or, subst, sym}
use Rattle.std.proofs.lemmas.Option.{slice_get-get_or}
use Rattle.bit_planes.specs.PartitionSet.{partitions_of}
use Rattle.group_machine.specs.Cluster.{LeaseTerms}
use Rattle.group_machine.proofs.ClusterLemmas.{assigned_over}
use Rattle.consumer.specs.Consumer.{out_of_group}
use Rattle.world.specs.World.{with_cluster}
use Rattle.world.specs.Steps.{Comes, refused_by_cluster, sync_event}
use Rattle.world.specs.Private.View.{world_view}
use Rattle.world.proofs.Outcomes.{consumer_at, consumer_there, is_in_as, leased_to, refused_ok, sync_ok, sync_refused}
use Rattle.world.proofs.parts.Parts.sync.Goals as goal

pub take_lease-requires-clause-member : goal.take_lease-requires-clause-member
take_lease-requires-clause-member c =
    let w = world_view c.args.self.now in
    let asking = c.in-Ok.ensures.value in
    let is_consumer = consumer_at w c.args.member c.in-Ok.index c.index_mut.result.now asking.number asking.below c.index_mut.ensures.value in
    let there = consumer_there w c.in-Ok.index c.index_mut.result.now asking.below c.index_mut.ensures.value in
    let consumer = c.requires.consumers c.args.member c.index_mut.result.now is_consumer in
    is_in_as c.index_mut.result.now.member c.args.member (asking.present c.index_mut.result.now there) consumer.number
    ∙ ap (λ (l : LeaseTerms). Some l.member) (sym (leased_to c.args.self.now.cluster c.args.member c.in-Ok-sync.lease c.in-Ok-sync.ensures.answer))

pub take_lease-requires-clause-partitions : goal.take_lease-requires-clause-partitions
take_lease-requires-clause-partitions c =
    let w = world_view c.args.self.now in
    let asking = c.in-Ok.ensures.value in
    let is_consumer = consumer_at w c.args.member c.in-Ok.index c.index_mut.result.now asking.number asking.below c.index_mut.ensures.value in
    let consumer = c.requires.consumers c.args.member c.index_mut.result.now is_consumer in
    ap (λ (l : LeaseTerms). partitions_of l.assigned) (leased_to c.args.self.now.cluster c.args.member c.in-Ok-sync.lease c.in-Ok-sync.ensures.answer)
    ∙ assigned_over c.args.self.now.cluster.group c.requires.cluster.group.consistent c.args.member ∙ sym consumer.partitions

pub returns-in-Ok-sync : goal.returns-in-Ok-sync
returns-in-Ok-sync c =
    let w = world_view c.args.self.now in
    let asking = c.in-Ok.ensures.value in
    let there = consumer_there w c.in-Ok.index c.index_mut.result.now asking.below c.index_mut.ensures.value in
    sync_ok w c.args.member c.in-Ok.index c.index_mut.result.now c.take_lease.new.self c.sync.new.self c.in-Ok-sync.lease c.generation.result asking there
    c.in-Ok-sync.ensures.answer c.in-Ok-sync.ensures.ok c.take_lease.ensures c.generation.ensures

pub returns-in-Err-sync : goal.returns-in-Err-sync
returns-in-Err-sync c =
    let w = world_view c.args.self.now in
    let asking = c.in-Ok.ensures.value in
    let some = slice_index_or w.consumers c.in-Ok.index (out_of_group 0) in
    let why = c.in-Err-sync.why in
    let same : with_cluster w c.sync.new.self ≡ w = ap (with_cluster w) c.in-Err-sync.ensures.err in
    refused_ok w (world_view c.refuse.new.self) c.args.member c.in-Ok.index (sync_event w c.args.member) why c.refuse.result asking.number
    (sync_refused w c.args.member c.in-Ok.index some why asking (slice_get-get_or w.consumers c.in-Ok.index (out_of_group 0) asking.below) c.in-Err-sync.ensures.answer)
    (subst (λ x. Comes (refused_by_cluster x (suc c.in-Ok.index) why) c.refuse.result (world_view c.refuse.new.self)) same c.refuse.ensures)
