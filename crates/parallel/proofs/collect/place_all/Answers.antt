use Rattle.std.proofs.Common.{◌≡◌, ◌∙◌, ◌<◌, Ok, ap, arith, inl, length, length-set, refl, subst, sym}
use Rattle.std.specs.Prelude.{Contains}
use Rattle.std.specs.Vec.Iter.{into_iter_items}
use Rattle.std.proofs.lemmas.List.Elements.{All-contains_itself, All-rest, All-same}
use Rattle.parallel.specs.Private.Done.{ArePlaced}
use Rattle.parallel.proofs.Placed.{next-one, placed-more}
use Rattle.parallel.proofs.collect.place_all.Goals as goal

pub loop-one-init : goal.loop-one-init
loop-one-init g c =
    let done = c.args.done.items in
    let left = into_iter_items c.into_iter-one-iterator.result in
    let all : left ≡ done = c.into_iter-one-iterator.ensures.into_iter_gives.0 in record {
      rest = All-same (Contains done) left done all (All-contains_itself done);
      len = refl;
      placed = λ i d lt. inl refl;
    }

pub place-requires : goal.place-requires
place-requires g c =
    let inv = c.loop-one.invariant in
    let next = next-one c.args.done.items (into_iter_items c.loop-one.one-iterator) (into_iter_items c.next.new.self) c.in-Some.one (length c.args.places.now.items) c.in-Some.ensures.steps.0 inv.rest c.requires in
    omega (arith, next.0, inv.len)

pub loop-one-preserved : goal.loop-one-preserved
loop-one-preserved g c =
    let inv = c.loop-one.invariant in
    let done = c.args.done.items in
    let old = c.args.places.now.items in
    let places = c.loop-one.places.items in
    let one = c.in-Some.one in
    let left = into_iter_items c.loop-one.one-iterator in
    let rest = into_iter_items c.next.new.self in
    let steps = c.in-Some.ensures.steps in
    let next = next-one done left rest one (length c.args.places.now.items) steps.0 inv.rest c.requires in
    let within : one.index < length places = omega (arith, next.0, inv.len) in
    record {
      rest = All-rest (Contains done) one rest left steps.0 inv.rest;
      len = ap length c.place.ensures ∙ length-set places one.index (Ok one.value) ∙ inv.len;
      placed = subst (ArePlaced done old) (sym c.place.ensures) (placed-more done old places one within next.1 inv.placed);
    }
