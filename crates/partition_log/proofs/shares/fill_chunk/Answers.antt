use Rattle.std.proofs.Common.{◌≡◌, ◌<◌, ◌+◌, ◌∙◌, ◌∷◌, ◌++◌, [], ℕ, arith, ap, drop, get_or, length, map, rules, sym, vec_items, vec_len}
use Rattle.std.specs.Prelude.{slice_set}
use Rattle.std.proofs.lemmas.List.{get_or-map, length-map, length-set, map-set}
use Rattle.partition_log.specs.Private.Filled.{filled}
use Rattle.partition_log.specs.Private.Shares.{numbers_in, places_in}
use Rattle.partition_log.proofs.Fills.{filled-step}
use Rattle.partition_log.proofs.shares.fill_chunk.Goals as goal

pub loop-k-preserved : goal.loop-k-preserved
loop-k-preserved c =
    let k = c.loop-k.k in
    let codes = c.args.chunk.now.codes.now in
    let places = places_in c.args.chunk.now in
    let ids = numbers_in c.args.chunk.now in
    let logs = c.loop-k.logs.items in
    let code = get_or codes k 0 in
    let place = get_or c.args.chunk.now.places.now code 0 in
    let number = get_or c.args.chunk.now.numbers.now code 0 in
    let inv = c.loop-k.invariant in
    let lt : k < length codes = c.loop-k-test.true in
    let known : code < length c.args.chunk.now.places.now = c.requires.placed k 0 lt in
    let counted : length c.args.logs.now.items ≡ vec_len c.args.logs.now = search rules in
    let below : place < length logs = omega (arith, inv.each, counted, c.requires.below code 0 known) in
    let old : get_or (map vec_items logs) place [] ≡ vec_items c.index_mut-log.result.now = get_or-map vec_items logs place c.index_mut-log.result.now [] below ∙ ap vec_items (sym c.index_mut-log.ensures.value) in
    let more : map vec_items (slice_set logs place c.push.new.self) ≡ slice_set (map vec_items logs) place (get_or (map vec_items logs) place [] ++ number ∷ []) =
    map-set vec_items logs place c.push.new.self ∙ ap (slice_set (map vec_items logs) place) (c.in_ok-push.ensures.items ∙ ap (λ log. log ++ number ∷ []) (sym old)) in
    let at_place : get_or places k 0 ≡ place = get_or-map (λ (x : ℕ). get_or c.args.chunk.now.places.now x 0) codes k 0 0 lt in
    let at_number : get_or ids k 0 ≡ number = get_or-map (λ (x : ℕ). get_or c.args.chunk.now.numbers.now x 0) codes k 0 0 lt in
    let step = filled-step (map vec_items logs) places ids k (omega (arith, lt, length-map codes (λ (x : ℕ). get_or c.args.chunk.now.places.now x 0))) (omega (arith, lt, length-map codes (λ (x : ℕ). get_or c.args.chunk.now.numbers.now x 0))) in
    let stepped = rw (at_place, at_number) at step in
    record {
      each = length-set logs place c.push.new.self ∙ inv.each;
      filled_is = ap (λ ls. filled ls (drop (k + 1) places) (drop (k + 1) ids)) more ∙ sym stepped ∙ inv.filled_is;
    }
