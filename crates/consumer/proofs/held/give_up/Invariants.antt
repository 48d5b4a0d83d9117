use Rattle.std.proofs.Common.{None, length, slice_index_or, if◌then◌else◌}
use Rattle.bit_planes.specs.PartitionSet.{is_in, minus}
use Rattle.consumer.proofs.Slots.{AreWritten}
use Rattle.consumer.proofs.held.give_up.Given as goal

abbrev pub invariant-loop-p : goal.invariant-loop-p
invariant-loop-p l = AreWritten (λ p. if is_in l.assigned p then slice_index_or l.fn.held p None else None) (minus l.holding l.assigned) (length l.fn.held) l.held l.p-iterator
