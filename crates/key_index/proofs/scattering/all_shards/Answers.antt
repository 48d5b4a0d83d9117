use Rattle.std.proofs.Common.{◌<◌, ◌∙◌, ◌++◌, [], Bor, List, arith, ap, ap₂, length, get_or, map, sym, take}
use Rattle.std.proofs.lemmas.List.{map-append}
use Rattle.key_index.specs.Keys.{Key, lent, lent_lists}
use Rattle.key_index.specs.Private.Sharded.{shard_of}
use Rattle.key_index.proofs.Scattered.{lists-more}
use Rattle.key_index.proofs.scattering.all_shards.Goals as goal

pub loop-i-preserved : goal.loop-i-preserved
loop-i-preserved c =
    let lists = c.args.lists.now in
    let f = shard_of c.args.hasher in
    let i = c.loop-i.i in
    let e : Bor (List (Bor Key)) = record { ref_ptr = (0, 0); now = [] } in
    let i_in : i < length lists = omega (arith, c.loop-i-test.true, c.requires.as_many) in
    let own = (c.requires.are i c.index-scattered-i.result e i_in).shards in
    c.in_ok-extend_from_slice.ensures.items ∙ ap₂ (λ ss ns. ss ++ ns) c.loop-i.invariant (c.as_slice.ensures.value ∙ own)
    ∙ sym (map-append f (lent_lists (take i lists)) (lent (get_or lists i e).now)) ∙ ap (map f) (sym (lists-more lists i e i_in))
