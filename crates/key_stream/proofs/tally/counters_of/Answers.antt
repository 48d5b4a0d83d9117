use Rattle.std.proofs.Common.{◌≡◌, ◌+◌, ◌∙◌, ◌∷◌, ◌++◌, [], arith, ap, drop, length, length-append, sym, take}
use Rattle.std.specs.Vec.Iter.{into_iter_items}
use Rattle.std.proofs.lemmas.List.{map-append, take_all, take_more}
use Rattle.parallel.proofs.Iterated.{drop_last, drop_next}
use Rattle.key_stream.proofs.Turns.{counts_of}
use Rattle.key_stream.specs.Rounds.{entries_in}
use Rattle.key_stream.proofs.tally.counters_of.Goals as goal

pub loop-worker-preserved : goal.loop-worker-preserved
loop-worker-preserved c =
    let inv = c.loop-worker.invariant in
    let workers = c.args.workers.items in
    let before = c.loop-worker.counters.items in
    let n = length before in
    let counts = c.into_counts.result in
    let steps = c.in-Some.ensures.steps in
    let next = drop_next workers (into_iter_items c.next.new.self) n c.in-Some.worker (sym inv.rest ∙ steps.0) in
    let long : length (before ++ counts ∷ []) ≡ n + 1 = length-append before (counts ∷ []) in
    let grown = c.in_ok-push.ensures.items in
    let was = inv.len in
    let left = ap length steps.0 in
    let less = steps.1 in
    let taken : before ++ counts ∷ [] ≡ entries_in (take (length (before ++ counts ∷ [])) workers) =
    ap (λ es. es ++ counts ∷ []) inv.before ∙ ap (λ x. entries_in (take n workers) ++ x ∷ []) c.into_counts.ensures ∙ sym (map-append counts_of (take n workers) (c.in-Some.worker ∷ [])) ∙ ap (λ w. entries_in (take n workers ++ w ∷ [])) (sym next.1)
    ∙ ap entries_in (sym (take_more workers n c.in-Some.worker next.0)) ∙ ap (λ m. entries_in (take m workers)) (sym long) in
    record {
      within = rw grown (omega (arith, long, next.0));
      rest = rw grown (next.2 ∙ ap (λ m. drop m workers) (sym long));
      len = omega arith;
      before = rw grown taken;
    }

pub returns : goal.returns
returns c =
    let inv = c.loop-worker.invariant in
    let workers = c.args.workers.items in
    let n = length c.loop-worker.counters.items in
    let none : length (drop n workers) ≡ 0 = ap length (sym inv.rest) ∙ sym inv.len ∙ c.in-None.ensures.steps.0 in
    let all : n ≡ length workers = drop_last workers n (omega (arith, inv.within)) none in
    inv.before ∙ ap entries_in (take_all n workers (omega (arith, all)))
