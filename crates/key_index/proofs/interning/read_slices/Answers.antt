use Rattle.std.proofs.Common.{◌<◌, ◌∙◌, [], arith, ap, get_or, length, map, sym}
use Rattle.std.proofs.lemmas.List.{get_or-map, length-map, same_lists}
use Rattle.key_index.specs.Keys.{distinct, id_of, lent_lists}
use Rattle.key_index.proofs.interning.read_slices.Goals as goal

pub returns : goal.returns
returns g c =
    let all = lent_lists c.args.records.now.lists.now in
    let f = id_of (distinct all) in
    let new = c.for_each_chunk_mut.new.s in
    let long = c.for_each_chunk_mut.auto.s in
    same_lists new (map f all) (omega (arith, long, c.requires.len, length-map all f)) (λ k d lt.
    let at = (c.for_each_chunk_mut.ensures.by_index k d (omega (arith, lt, long))).1 in
    let k_in : k < length all = omega (arith, lt, long, c.requires.len) in
    sym at.new_element ∙ at.call at.offset d at.offset_in_chunk ∙ ap (λ j. f (get_or all j [])) at.start_plus_offset ∙ sym (get_or-map f all k [] d k_in))
