use Rattle.std.proofs.Common.{◌∙◌, ap, arith, get_or, sym}
use Rattle.partitioner.specs.Place.{place_in_topic}
use Rattle.partitioner.specs.Private.Groups.{no_key}
use Rattle.partitioner.proofs.Hashes.{by_index}
use Rattle.partitioner.proofs.Partitions.place_batches.Goals as goal

pub returns : goal.returns
returns g c =
    let long = c.par_chunks_mut_for_each.auto.s in
    let counts = c.args.self.now in
    by_index (λ key. place_in_topic counts 0 key.now) c.args.keys.now no_key c.par_chunks_mut_for_each.new.s (omega (arith, c.requires.len, long)) (λ i lt.
    let at = (c.par_chunks_mut_for_each.ensures.by_index i 0 (omega (arith, c.requires.len))).1 in
    sym at.new_element ∙ at.call at.offset no_key at.offset_in_chunk ∙ ap (λ j. place_in_topic counts 0 (get_or c.args.keys.now j no_key).now) at.start_plus_offset)
