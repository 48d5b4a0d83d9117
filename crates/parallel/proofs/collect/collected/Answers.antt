use Rattle.std.proofs.Common.{◌≡◌, ◌+◌, ◌∙◌, ◌∷◌, ◌++◌, [], Ok, arith, ap, drop, length, length-append, map, sym, take}
use Rattle.std.specs.Vec.Iter.{into_iter_items}
use Rattle.std.proofs.lemmas.List.{map-append, take_all, take_more}
use Rattle.parallel.proofs.Iterated.{drop_last, drop_next}
use Rattle.parallel.proofs.collect.collected.Goals as goal

pub loop-one-preserved : goal.loop-one-preserved
loop-one-preserved g c =
    let inv = c.loop-one.invariant in
    let results = c.args.results.items in
    let before = c.loop-one.values.items in
    let n = length before in
    let one = c.in_ok-one.field-0 in
    let steps = c.in-Some.ensures.steps in
    let next = drop_next results (into_iter_items c.next.new.self) n c.in-Some.one (sym inv.rest ∙ steps.0) in
    let long : length (before ++ one ∷ []) ≡ n + 1 = length-append before (one ∷ []) in
    let grown = c.in_ok-push.ensures.items in
    let was = inv.len in
    let left = ap length steps.0 in
    let less = steps.1 in
    let taken : take (length (before ++ one ∷ [])) results ≡ map Ok (before ++ one ∷ []) =
    ap (λ m. take m results) long ∙ take_more results n c.in-Some.one next.0 ∙ ap (λ x. take n results ++ x ∷ []) (next.1 ∙ c.in_ok-one.was) ∙ ap (λ xs. xs ++ Ok one ∷ []) inv.before
    ∙ sym (map-append Ok before (one ∷ [])) in
    record {
      within = rw grown (omega (arith, long, next.0));
      rest = rw grown (next.2 ∙ ap (λ m. drop m results) (sym long));
      len = omega arith;
      before = rw grown taken;
    }

pub returns : goal.returns
returns g c =
    let inv = c.loop-one.invariant in
    let results = c.args.results.items in
    let n = length c.loop-one.values.items in
    let none : length (drop n results) ≡ 0 = ap length (sym inv.rest) ∙ sym inv.len ∙ c.in-None.ensures.steps.0 in
    let values : n ≡ length results = drop_last results n (omega (arith, inv.within)) none in
    sym (take_all n results (omega (arith, values))) ∙ inv.before
