use Rattle.std.proofs.Common.{◌≡◌, ◌&&◌, ℕ}
use Rattle.std.specs.Prelude.{nat_lt, Some}
use Rattle.bit_planes.specs.PartitionSet.{is_in, partitions_of}
use Rattle.consumer.specs.Consumer.{is_held}
use Rattle.world.specs.World.{consumer_of}
use Rattle.world.proofs.world.World.held_by.Given as goal

abbrev pub invariant-loop-p : goal.invariant-loop-p
invariant-loop-p l = record {
  partitions : partitions_of l.held ≡ l.partitions;
  same : l.partitions ≡ l.fn.self.cluster.group.partitions;
  elements : (q : ℕ) → is_in l.held q ≡ (nat_lt q l.p && is_held l.consumer q);
  consumer : consumer_of l.fn.self l.member ≡ Some l.consumer;
}
