use Rattle.std.proofs.Common.{ℕ, ◌≡◌, ◌==◌, take}
use Rattle.std.specs.List.{list_any}
use Rattle.bit_planes.specs.PartitionSet.{partitions_of, is_in}
use Rattle.bit_planes.proofs.plane.Plane.of.Given as goal

abbrev pub invariant-loop-element : goal.invariant-loop-element
invariant-loop-element l = record {
  so_far : (q : ℕ) → is_in l.set q ≡ list_any (λ element. q == element) (take l.element-index l.elements);
  partitions : partitions_of l.set ≡ l.partitions;
}
