use Rattle.std.proofs.Common.{rules, ◌≡◌, ◌∙◌, [], ap, arith}
use Rattle.bit_planes.specs.PartitionSet.{elements, minus}
use Rattle.bit_planes.proofs.Sets.{in_below}
use Rattle.consumer.proofs.Slots.{all_written, given_up_drops, given_up_holding, given_up_same, in_first, next_in, none_written, one_written, slot_written}
use Rattle.consumer.proofs.held.give_up.Goals as goal

pub loop-p-init : goal.loop-p-init
loop-p-init c =
    let all : c.into_iter-p-iterator.result ≡ elements (minus c.args.holding.now c.args.assigned.now) = c.into_iter-p-iterator.ensures.into_iter_gives ∙ c.iter-p-items.ensures.value ∙ ap elements c.minus-dropped.ensures.value in
    none_written _ _ _ _ all (given_up_same c.args.assigned.now c.args.holding.now c.args.held.now c.requires.holding)

pub bounds-held-p : goal.bounds-held-p
bounds-held-p c =
    let old = next_in _ _ _ _ _ c.in-Some.p c.next.new.self c.in-Some.ensures.steps c.loop-p.invariant in
    let below = in_below c.args.holding.now c.in-Some.p (in_first c.args.holding.now c.args.assigned.now c.in-Some.p old) in
    omega (arith, below, c.loop-p.invariant.long, c.requires.holding.partitions)

pub loop-p-preserved : goal.loop-p-preserved
loop-p-preserved c =
    let p = c.in-Some.p in
    let old = next_in _ _ _ _ _ p c.next.new.self c.in-Some.ensures.steps c.loop-p.invariant in
    let below = in_below c.args.holding.now p (in_first c.args.holding.now c.args.assigned.now p old) in
    one_written _ _ _ c.loop-p.held _ p c.next.new.self _ c.in-Some.ensures.steps (omega (arith, below, c.requires.holding.partitions))
    (given_up_drops c.args.assigned.now c.args.holding.now c.args.held.now p old) c.loop-p.invariant

pub returns-clause-slots : goal.returns-clause-slots
returns-clause-slots c =
    let over : c.loop-p.p-iterator ≡ [] = search rules in
    all_written _ _ _ c.loop-p.held _ over c.loop-p.invariant

pub returns-clause-holding : goal.returns-clause-holding
returns-clause-holding c =
    let over : c.loop-p.p-iterator ≡ [] = search rules in
    given_up_holding c.args.assigned.now c.args.holding.now _ c.args.held.now c.loop-p.held c.requires.holding c.loop-p.invariant.long (c.minus.ensures.value ∙ ap (minus c.args.holding.now) c.minus-dropped.ensures.value) (slot_written _ _ _ c.loop-p.held _ over c.loop-p.invariant)
