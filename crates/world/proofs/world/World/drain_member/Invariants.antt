use Rattle.std.proofs.Common.{◌≡◌}
use Rattle.world.proofs.Walks.{AreBelow}
use Rattle.world.specs.Courses.{for_each}
use Rattle.world.specs.Draining.{drain_log, drain_member}
use Rattle.world.proofs.Following.{Continues}
use Rattle.world.proofs.world.World.drain_member.Given as goal

abbrev pub invariant-loop-p : goal.invariant-loop-p
invariant-loop-p g l = record {
  left : Continues g.O.Observer.Sees (l.fn.self, l.fn.observer) (drain_member l.batch l.member l.fn.self) (l.self, l.observer) (for_each l.p-iterator (drain_log l.batch l.member) l.self);
  below : AreBelow l.fn.self.cluster.group.partitions l.p-iterator;
  partitions : l.self.cluster.group.partitions ≡ l.fn.self.cluster.group.partitions;
}
