use Rattle.std.proofs.Common.{◌≡◌, length}
use Rattle.parallel.specs.Private.Done.{AreResults}
use Rattle.parallel.proofs.collect.no_results.Given as goal

abbrev pub invariant-loop-task : goal.invariant-loop-task
invariant-loop-task g l = record {
  len : length l.found.items ≡ l._task;
  none : AreResults (λ _ _. ⊥) l._task l.found.items;
}
