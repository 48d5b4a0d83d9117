use Rattle.std.proofs.Common.{◌-◌}
use Rattle.world.specs.Settling.{passes}
use Rattle.world.proofs.Following.{Continues}
use Rattle.world.proofs.world.World.make_passes.Given as goal

abbrev pub invariant-loop : goal.invariant-loop
invariant-loop g l = Continues g.O.Observer.Sees (l.fn.self, l.fn.observer) (passes 4 l.fn.self) (l.self, l.observer) (passes (4 - l.counter) l.self)
