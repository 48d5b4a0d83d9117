use Rattle.std.proofs.Common.{◌≡◌, ◌+◌, ◌∙◌, ◌∷◌, ◌++◌, [], Bor, List, ap, ap₂, sym}
use Rattle.std.specs.Prelude.{slice_range}
use Rattle.std.proofs.lemmas.List.{append-nil}
use Rattle.std.proofs.lemmas.List.Concat.{flat_map-append}
use Rattle.key_index.specs.Keys.{Key, lent, lent_lists}
use Rattle.key_index.specs.Private.Sharded.{start_of}
use Rattle.key_index.proofs.Scattered.{more-slices, slice-map}
use Rattle.key_index.proofs.scattering.split_keys.Goals as goal

pub loop-p-preserved : goal.loop-p-preserved
loop-p-preserved c =
    let keys = c.args.keys.now in
    let all = lent keys in
    let p = c.loop-p.p in
    let own : Bor (List (Bor Key)) → List Key = λ list. lent list.now in
    let now : Bor Key → Key = λ key. key.now in
    let from = c.start_of-from.result in
    let to = c.start_of-to.result in
    let slice : lent (slice_range keys from to) ≡ slice_range all (start_of p all) (start_of (p + 1) all) =
    slice-map now keys from to ∙ ap₂ (λ a b. slice_range all a b) c.start_of-from.ensures c.start_of-to.ensures in
    ap lent_lists c.in_ok-push.ensures.items ∙ flat_map-append own c.loop-p.slices.items (_ ∷ []) ∙ ap (λ ks. lent_lists c.loop-p.slices.items ++ ks) (append-nil (lent (slice_range keys from to)) ∙ slice)
    ∙ ap (λ ks. ks ++ slice_range all (start_of p all) (start_of (p + 1) all)) c.loop-p.invariant ∙ sym (more-slices all p)
