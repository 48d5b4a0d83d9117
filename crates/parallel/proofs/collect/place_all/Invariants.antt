use Rattle.std.proofs.Common.{◌≡◌, length}
use Rattle.std.specs.Prelude.{All, Contains}
use Rattle.std.specs.Vec.Iter.{into_iter_items}
use Rattle.parallel.specs.Private.Done.{ArePlaced}
use Rattle.parallel.proofs.collect.place_all.Given as goal

abbrev pub invariant-loop-one : goal.invariant-loop-one
invariant-loop-one g l = record {
  rest : All (Contains l.fn.done.items) (into_iter_items l.one-iterator);
  len : length l.places.items ≡ length l.fn.places.items;
  placed : ArePlaced l.fn.done.items l.fn.places.items l.places.items;
}
