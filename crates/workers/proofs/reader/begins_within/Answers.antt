use Rattle.std.proofs.Common.{◌≡◌, ◌<◌, ◌∙◌, ap, arith, rules}
use Rattle.bit_planes.specs.PartitionSet.{elements, partitions_of}
use Rattle.bit_planes.proofs.Sets.{in_below}
use Rattle.workers.proofs.Read.{next_in, none_begun}
use Rattle.workers.proofs.reader.begins_within.Goals as goal

pub loop-p-init : goal.loop-p-init
loop-p-init c =
    let all : c.into_iter-p-iterator.result ≡ elements c.args.lease.now.assigned = c.into_iter-p-iterator.ensures.into_iter_gives ∙ c.iter-p-items.ensures.value ∙ ap elements c.assigned.ensures in
    none_begun c.args.lease.now c.args.logs.now c.into_iter-p-iterator.result all

pub start-requires : goal.start-requires
start-requires c = in_below c.args.lease.now.assigned c.in-Some.p (next_in c.args.lease.now c.args.logs.now c.loop-p.p-iterator c.in-Some.p c.next.new.self c.in-Some.ensures.steps c.loop-p.invariant)

pub len-requires : goal.len-requires
len-requires c =
    let below : c.in-Some.p < partitions_of c.args.lease.now.assigned = in_below c.args.lease.now.assigned c.in-Some.p (next_in c.args.lease.now c.args.logs.now c.loop-p.p-iterator c.in-Some.p c.next.new.self c.in-Some.ensures.steps c.loop-p.invariant) in
    omega (arith, below, c.requires)

pub loop-p-preserved : goal.loop-p-preserved
loop-p-preserved c = search rules
