use Rattle.std.proofs.Common.{None, length, slice_index_or}
use Rattle.bit_planes.specs.PartitionSet.{minus}
use Rattle.consumer.specs.Consumer.{leased_slot}
use Rattle.consumer.proofs.Slots.{AreWritten}
use Rattle.consumer.proofs.held.lease.Given as goal

abbrev pub invariant-loop-p : goal.invariant-loop-p
invariant-loop-p l = AreWritten (λ p. leased_slot l.lease p (slice_index_or l.fn.held p None)) (minus l.lease.assigned l.holding) (length l.fn.held) l.held l.p-iterator
