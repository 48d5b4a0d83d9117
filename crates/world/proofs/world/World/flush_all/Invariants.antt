use Rattle.bit_planes.specs.PartitionSet.{elements}
use Rattle.world.specs.Courses.{for_each}
use Rattle.world.specs.Settling.{flush}
use Rattle.world.proofs.Following.{Continues}
use Rattle.world.proofs.world.World.flush_all.Given as goal

abbrev pub invariant-loop-p : goal.invariant-loop-p
invariant-loop-p g l =
    Continues g.O.Observer.Sees (l.fn.self, l.fn.observer) (for_each (elements l.fn.given) (flush l.member) l.fn.self) (l.self, l.observer) (for_each l.p-iterator (flush l.member) l.self)
