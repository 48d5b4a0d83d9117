use Rattle.world.specs.Courses.{for_each}
use Rattle.world.specs.Draining.{drain_member, drain_members}
use Rattle.world.proofs.Following.{Continues}
use Rattle.world.proofs.Preserved.{SamePresent}
use Rattle.world.proofs.Walks.{numbers_left}
use Rattle.world.proofs.world.World.drain_members.Given as goal

abbrev pub invariant-loop-index : goal.invariant-loop-index
invariant-loop-index g l = record {
  left : Continues g.O.Observer.Sees (l.fn.self, l.fn.observer) (drain_members l.batch l.fn.self) (l.self, l.observer) (for_each (numbers_left l.fn.self.cluster.group.slots l.index) (drain_member l.batch) l.self);
  present : SamePresent l.fn.self l.self;
}
