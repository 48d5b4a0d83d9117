use Rattle.std.proofs.Common.{◌≡◌, ◌-◌}
use Rattle.world.specs.Draining.{drain_log, read_up}
use Rattle.world.proofs.Following.{Continues}
use Rattle.world.proofs.world.World.drain_log.Given as goal

abbrev pub invariant-loop : goal.invariant-loop
invariant-loop g l = record {
  left : Continues g.O.Observer.Sees (l.fn.self, l.fn.observer) (drain_log l.batch l.member l.p l.fn.self) (l.self, l.observer) (read_up (l.end - l.counter) l.batch l.member l.p l.self);
  partitions : l.self.cluster.group.partitions ≡ l.fn.self.cluster.group.partitions;
}
