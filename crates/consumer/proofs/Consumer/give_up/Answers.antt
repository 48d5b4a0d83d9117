use Rattle.std.proofs.Common.{List, Option, ◌∙◌, sym, subst}
use Rattle.std.proofs.lemmas.List.{with_items_is}
use Rattle.consumer.specs.Consumer.{IsValidConsumer}
use Rattle.consumer.specs.Private.Hold.{IsHolding}
use Rattle.consumer.specs.Private.View.{consumer_view}
use Rattle.consumer.specs.declared.held.Held.{Held}
use Rattle.consumer.proofs.Valid.{given_up_valid}
use Rattle.consumer.proofs.Consumer.give_up.Goals as goal

pub invariant_of-self : goal.invariant_of-self
invariant_of-self c =
    let P : List (Option Held) → Type 0 = λ held. IsValidConsumer (record (consumer_view c.self.inside) { held = held }) in
    let items = with_items_is c.self.inside.held c.give_up.new.held (c.give_up.auto.held ∙ c.deref_mut.ensures.len) in
    let dropped = rw c.deref_mut.ensures.value at c.give_up.ensures.slots in
    record {
      seen = subst P (sym (items ∙ dropped)) (given_up_valid (consumer_view c.self.inside) c.self.invariant.seen);
      holding = subst (IsHolding c.give_up.new.holding) (sym items) c.give_up.ensures.holding;
    }
