-- The view of a consumer's fields, and their invariant.
use Rattle.consumer.specs.Consumer.{ConsumerState, IsValidConsumer}
use Rattle.consumer.specs.Private.Hold.{IsHolding}
use Rattle.consumer.specs.declared.Consumer.TheInside.{Inside}

abbrev pub consumer_view : Inside → ConsumerState
consumer_view a = record {
  partitions = a.partitions;
  member = a.member;
  generation = a.generation;
  assigned = a.assigned;
  held = a.held.items;
}

-- the invariant of the fields
pub record IsValidInside (a : Inside) : Type 0 where
  pub seen : IsValidConsumer (consumer_view a)
  pub holding : IsHolding a.holding a.held.items
