use Rattle.std.proofs.Common.{◌≡◌, length}
use Rattle.std.specs.Prelude.{All, IfOk}
use Rattle.std.specs.Vec.Iter.{into_iter_items}
use Rattle.parallel.specs.Private.Done.{AreResultsOf, IsDone}
use Rattle.parallel.proofs.collect.collect_each.Given as goal

abbrev pub invariant-loop-list : goal.invariant-loop-list
invariant-loop-list g l = record {
  rest : All (λ list. IfOk list (λ own. All (IsDone g.F.Fn l.fn.f l.fn.count) own.items)) (into_iter_items l.list-iterator);
  len : length l.places.items ≡ l.fn.count;
  placed : AreResultsOf g.F.Fn l.fn.f l.fn.count l.places.items;
}
