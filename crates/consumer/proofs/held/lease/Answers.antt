use Rattle.std.proofs.Common.{rules, ◌≡◌, ◌∙◌, [], Some, ap, sym, arith}
use Rattle.bit_planes.specs.PartitionSet.{elements, minus, union}
use Rattle.bit_planes.proofs.Sets.{in_below}
use Rattle.consumer.proofs.Slots.{all_written, in_first, lease_holding, lease_same, lease_starts, next_in, none_written, one_written, slot_written}
use Rattle.consumer.proofs.held.lease.Goals as goal

pub loop-p-init : goal.loop-p-init
loop-p-init c =
    let new : c.minus.result ≡ minus c.args.lease.now.assigned c.args.holding.now = c.minus.ensures.value ∙ ap (λ s. minus s c.args.holding.now) c.assigned.ensures in
    let all : c.into_iter-p-iterator.result ≡ elements (minus c.args.lease.now.assigned c.args.holding.now) = c.into_iter-p-iterator.ensures.into_iter_gives ∙ c.iter-p-items.ensures.value ∙ ap elements new in
    none_written _ _ _ _ all (lease_same c.args.lease.now c.args.holding.now c.args.held.now c.requires.holding)

pub start-start-requires : goal.start-start-requires
start-start-requires c =
    let new = next_in _ _ _ _ _ c.in-Some.p c.next.new.self c.in-Some.ensures.steps c.loop-p.invariant in
    in_below c.args.lease.now.assigned c.in-Some.p (in_first c.args.lease.now.assigned c.args.holding.now c.in-Some.p new)

pub bounds-held-p : goal.bounds-held-p
bounds-held-p c =
    let new = next_in _ _ _ _ _ c.in-Some.p c.next.new.self c.in-Some.ensures.steps c.loop-p.invariant in
    let below = in_below c.args.lease.now.assigned c.in-Some.p (in_first c.args.lease.now.assigned c.args.holding.now c.in-Some.p new) in
    omega (arith, below, c.loop-p.invariant.long, c.requires.len)

pub loop-p-preserved : goal.loop-p-preserved
loop-p-preserved c =
    let p = c.in-Some.p in
    let new = next_in _ _ _ _ _ p c.next.new.self c.in-Some.ensures.steps c.loop-p.invariant in
    let below = in_below c.args.lease.now.assigned p (in_first c.args.lease.now.assigned c.args.holding.now p new) in
    one_written _ _ _ c.loop-p.held _ p c.next.new.self _ c.in-Some.ensures.steps (omega (arith, below, c.requires.len))
    (ap (λ n. Some (record { base = n; position = n })) c.start-start.ensures ∙ sym (lease_starts c.args.lease.now c.args.holding.now c.args.held.now c.requires.holding p new)) c.loop-p.invariant

pub returns-clause-slots : goal.returns-clause-slots
returns-clause-slots c =
    let over : c.loop-p.p-iterator ≡ [] = search rules in
    all_written _ _ _ c.loop-p.held _ over c.loop-p.invariant

pub returns-clause-holding : goal.returns-clause-holding
returns-clause-holding c =
    let over : c.loop-p.p-iterator ≡ [] = search rules in
    lease_holding c.args.lease.now c.args.holding.now _ c.args.held.now c.loop-p.held c.requires.holding (sym c.requires.len) c.loop-p.invariant.long (c.union.ensures.value ∙ ap (union c.args.holding.now) c.assigned-2.ensures) (slot_written _ _ _ c.loop-p.held _ over c.loop-p.invariant)
