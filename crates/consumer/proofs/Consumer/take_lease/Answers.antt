use Rattle.std.proofs.Common.{◌≡◌, ◌∙◌, ap, subst, sym}
use Rattle.std.proofs.lemmas.List.{with_items_is}
use Rattle.std.specs.Vec.{with_items}
use Rattle.consumer.specs.Consumer.{ConsumerState, IsValidConsumer, leased}
use Rattle.consumer.specs.Private.Hold.{IsHolding}
use Rattle.consumer.specs.Private.View.{consumer_view}
use Rattle.consumer.proofs.Valid.{leased_valid}
use Rattle.consumer.proofs.Consumer.take_lease.Goals as goal

pub invariant_of-self : goal.invariant_of-self
invariant_of-self c =
    let v : ConsumerState = consumer_view c.self.inside in
    let items = with_items_is c.self.inside.held c.lease.new.held (c.lease.auto.held ∙ c.deref_mut.ensures.len) in
    let held = rw c.deref_mut.ensures.value at c.lease.ensures.slots in
    let generation = c.generation-self-inside.ensures in
    let assigned = c.copy-self-inside.ensures ∙ c.assigned.ensures in
    let new : leased v c.args.lease.now ≡ record v { generation = c.generation-self-inside.result; assigned = c.copy-self-inside.result; held = (with_items c.self.inside.held c.lease.new.held).items } = cc in
    record {
      seen = subst IsValidConsumer new (leased_valid v c.args.lease.now c.self.invariant.seen (ap (λ (s : ConsumerState). s.member) c.self.view_is ∙ c.requires.member) (c.requires.partitions ∙ sym (ap (λ (s : ConsumerState). s.partitions) c.self.view_is)));
      holding = subst (IsHolding c.lease.new.holding) (sym items) c.lease.ensures.holding;
    }
