use Rattle.std.specs.Prelude.{All}
use Rattle.parallel.specs.Private.Done.{IsDone}
use Rattle.parallel.proofs.collect.values_by_turns.Given as goal

abbrev pub invariant-loop-turn : goal.invariant-loop-turn
invariant-loop-turn g l = All (IsDone g.F.Fn l.fn.f l.fn.count) l.done.items
