use Rattle.std.proofs.Common.{◌≡◌, ◌∙◌, Ok, arith, get_or, refl}
use Rattle.std.specs.Prelude.{All, IfOk}
use Rattle.std.specs.Fn.{FnReturns}
use Rattle.std.specs.Vec.Iter.{into_iter_items}
use Rattle.std.proofs.lemmas.Result.{IfOk-weaker}
use Rattle.std.proofs.lemmas.List.Elements.{All-rest, All-same}
use Rattle.parallel.specs.Private.Done.{IsDone}
use Rattle.parallel.specs.Values.{AreValues}
use Rattle.parallel.proofs.Placed.{no-result, next-result, placed-results, values-of}
use Rattle.parallel.proofs.collect.collect_each.Goals as goal

pub loop-list-init : goal.loop-list-init
loop-list-init g c =
    let left = into_iter_items c.into_iter-list-iterator.result in
    let all : left ≡ c.in_ok-lists.lists.items = c.into_iter-list-iterator.ensures.into_iter_gives.0 in
    let places = c.in_ok-places.places.items in
    let none = c.in_ok-places.ensures in
    record {
      rest = All-same (λ list. IfOk list (λ own. All (IsDone g.F.Fn c.args.f.now c.args.count) own.items)) left c.in_ok-lists.lists.items all c.in_ok-lists.ensures;
      len = none.len;
      placed = λ i d lt. no-result (λ x. FnReturns g.F.Fn c.args.f.now (i, tt) (Ok x)) (get_or places i d) (none.none i d lt);
    }

pub place_all-requires : goal.place_all-requires
place_all-requires g c =
    let inv = c.loop-list.invariant in
    let left = into_iter_items c.loop-list.list-iterator in
    let rest = into_iter_items c.next.new.self in
    let own = next-result (IsDone g.F.Fn c.args.f.now c.args.count) left rest c.in-Some.list c.in_ok-list.field-0 c.in-Some.ensures.steps.0 c.in_ok-list.was inv.rest in
    λ k d lt. omega (arith, (own k d lt).within, inv.len)

pub loop-list-preserved : goal.loop-list-preserved
loop-list-preserved g c =
    let inv = c.loop-list.invariant in
    let f = c.args.f.now in
    let left = into_iter_items c.loop-list.list-iterator in
    let rest = into_iter_items c.next.new.self in
    let list = c.in-Some.list in
    let own = next-result (IsDone g.F.Fn f c.args.count) left rest list c.in_ok-list.field-0 c.in-Some.ensures.steps.0 c.in_ok-list.was inv.rest in
    record {
      rest = All-rest (λ list. IfOk list (λ own. All (IsDone g.F.Fn f c.args.count) own.items)) list rest left c.in-Some.ensures.steps.0 inv.rest;
      len = c.place_all.ensures.len ∙ inv.len;
      placed = placed-results (λ i x. FnReturns g.F.Fn f (i, tt) (Ok x)) c.args.count c.in_ok-list.field-0.items c.loop-list.places.items c.place_all.new.places.items inv.len (λ k d lt. (own k d lt).value)
          c.place_all.ensures.places inv.placed;
    }

pub returns-clause-each : goal.returns-clause-each
returns-clause-each g c =
    let f = c.args.f.now in
    let places = c.loop-list.places.items in
    let inv = c.loop-list.invariant in
    IfOk-weaker c.collected.result _ (λ values. AreValues g.F.Fn f c.args.count values.items)
    (λ values is i d lt. (refl, values-of (λ i x. FnReturns g.F.Fn f (i, tt) (Ok x)) c.args.count places values.items inv.len inv.placed is i d lt)) c.collected.ensures
