use Rattle.std.proofs.Common.{◌≡◌, ◌∙◌, ap, map}
use Rattle.bit_planes.specs.PartitionSet.{elements}
use Rattle.bit_planes.proofs.Sets.{in_below}
use Rattle.group_machine.specs.Cluster.{start_of}
use Rattle.keycount_c.proofs.Filling.{elements_of, filling_none, first_of}
use Rattle.keycount_c.proofs.lists.put_starts.Goals as goal

pub loop-q-init : goal.loop-q-init
loop-q-init c =
    let s = c.args.lease.now.assigned in
    let all : c.into_iter-q-iterator.result ≡ elements s = c.into_iter-q-iterator.ensures.into_iter_gives ∙ c.iter-q-items.ensures.value ∙ ap elements c.assigned.ensures in
    (filling_none _ _ c.args.out.now (ap (map (start_of c.args.lease.now)) all), elements_of s _ all)

pub start-requires : goal.start-requires
start-requires c =
    let s = c.args.lease.now.assigned in
    in_below s c.in-Some.q (first_of s _ _ c.in-Some.q c.in-Some.ensures.steps c.loop-q.invariant.1)
