use Rattle.std.proofs.Common.{rules, suc, ◌+◌, ◌<◌, ◌≡◌, ◌∙◌, ◌∷◌, ℕ, List, length, map, drop, is_some, ap, refl, sym, arith}
use Rattle.group_machine.specs.declared.group.Slot.{Slot}
use Rattle.group_machine.specs.Slots.{present_from}
use Rattle.group_machine.proofs.WalkLemmas.{numbers_drop_here, numbers_drop_gone, numbers_drop_past}
use Rattle.group_machine.proofs.group.members.MembersIterator.next.Goals as goal

gone : {m n : ℕ} → m ≡ suc n → n < m
gone e = omega (arith, e)

pub loop-index-init : goal.loop-index-init
loop-index-init c = record { left = c.self.view_is; same = refl }

pub invariant_of-self : goal.invariant_of-self
invariant_of-self c = omega (arith, ap length c.loop-index.invariant.same, c.self.invariant)

pub returns-then-is_some : goal.returns-then-is_some
returns-then-is_some c =
    let index = c.loop-index.index in
    let here = ap (λ (s : Slot). is_some s.seat) c.index-slots-index.is ∙ sym c.is_some.ensures ∙ c.if-is_some.true in
    let steps = sym c.loop-index.invariant.left ∙ numbers_drop_here c.self.inside.slots.now index c.index-slots-index.result c.loop-index-test.true c.index-slots-index.is here
    ∙ ap (λ (slots : List Slot). (index + 1) ∷ map (λ r. r.0) (present_from (index + 1 + 1) (drop (index + 1) slots))) (sym c.loop-index.invariant.same) in
    let shorter = gone (ap length steps) in
    record { steps = steps; goes = search rules }

pub loop-index-preserved : goal.loop-index-preserved
loop-index-preserved c =
    let out = ap (λ (s : Slot). is_some s.seat) c.index-slots-index.is ∙ sym c.is_some.ensures ∙ c.if-is_some.false in
    record {
      left = sym (numbers_drop_gone c.self.inside.slots.now c.loop-index.index c.index-slots-index.result c.loop-index-test.true c.index-slots-index.is out) ∙ c.loop-index.invariant.left;
      same = c.loop-index.invariant.same;
    }

pub invariant_of-self-2 : goal.invariant_of-self-2
invariant_of-self-2 c = omega (arith, ap length c.loop-index.invariant.same, c.self.invariant)

pub returns-clause-steps : goal.returns-clause-steps
returns-clause-steps c =
    let slots = c.self.inside.slots.now in
    let now = c.loop-index.self-inside.slots.now in
    (sym c.loop-index.invariant.left ∙ numbers_drop_past slots (c.loop-index.index + 1) c.loop-index.index (omega (arith, c.loop-index-test.false)), numbers_drop_past now (length slots + 1) (length slots) (omega (arith, ap length c.loop-index.invariant.same)))
