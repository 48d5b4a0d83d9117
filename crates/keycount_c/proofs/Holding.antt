-- The set that a consumer has of what it holds.
use Rattle.std.proofs.Common.{ℕ, ◌≡◌, ◌∙◌, ap, sym, arith}
use Rattle.bit_planes.specs.PartitionSet.{PartitionSet, elements, is_in, partitions_of, set_where}
use Rattle.bit_planes.proofs.Sets.{in_where, partitions_where, same_set}
use Rattle.consumer.specs.Consumer.{ConsumerState, is_held}
use Rattle.keycount_c.specs.Consumers.{held_by}

pub elements_held : (c : ConsumerState) (s : PartitionSet) → partitions_of s ≡ c.partitions → ((p : ℕ) → is_in s p ≡ is_held c p) → elements s ≡ elements (held_by c)
elements_held c s over each =
    ap elements (same_set s (set_where c.partitions (is_held c)) (over ∙ sym (partitions_where c.partitions (is_held c))) (λ q lt. each q ∙ sym (in_where c.partitions (is_held c) q (omega (arith, lt, over)))))
