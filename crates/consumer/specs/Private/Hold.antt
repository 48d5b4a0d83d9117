-- What a consumer holds.
use Rattle.std.specs.Prelude.{◌≡◌, ℕ, List, Option, Some, None, Ok, is_some, length, slice_index_or}
use Rattle.bit_planes.specs.PartitionSet.{PartitionSet, is_in, partitions_of}
use Rattle.consumer.specs.Consumer.{ConsumerState, held_at, hold_answer}
use Rattle.consumer.specs.declared.held.Held.{Held}

-- the member number, and the offsets of a partition that is held
pub record IsHold (c : ConsumerState) (p : ℕ) (hold : ℕ × Held) : Type 0 where
  pub held : hold_answer c p ≡ Ok tt
  pub member : c.member ≡ Some hold.0
  pub offsets : held_at c p ≡ Some hold.1

-- a set contains exactly the partitions that are held
pub record IsHolding (holding : PartitionSet) (held : List (Option Held)) : Type 0 where
  pub partitions : partitions_of holding ≡ length held
  pub elements : (p : ℕ) → is_in holding p ≡ is_some (slice_index_or held p None)
