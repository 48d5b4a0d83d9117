use Rattle.std.proofs.Common.{◌∙◌, ap, arith, get_or, sym}
use Rattle.std.specs.List.{zip}
use Rattle.std.proofs.lemmas.Slice.Zip.{get_or-zip, length-zip}
use Rattle.partitioner.specs.Place.{place_in_topic}
use Rattle.partitioner.specs.Private.Groups.{no_key}
use Rattle.partitioner.proofs.Hashes.{by_index}
use Rattle.partitioner.proofs.Partitions.place_batches_in.Goals as goal

pub returns : goal.returns
returns g c =
    let long = c.par_chunks_mut_for_each.auto.s in
    let counts = c.args.self.now in
    let topics = c.args.topics.now in
    let keys = c.args.keys.now in
    let zipped = length-zip topics keys in
    by_index (λ keyed. place_in_topic counts keyed.0 keyed.1.now) (zip topics keys) (0, no_key) c.par_chunks_mut_for_each.new.s (omega (arith, c.requires.len, c.requires.topics.as_many, long, zipped)) (λ i lt.
    let at = (c.par_chunks_mut_for_each.ensures.by_index i 0 (omega (arith, lt, c.requires.len, c.requires.topics.as_many, zipped))).1 in
    sym at.new_element ∙ at.call at.offset no_key at.offset_in_chunk
    ∙ ap (λ j. place_in_topic counts (get_or topics j 0) (get_or keys j no_key).now) at.start_plus_offset
    ∙ ap (λ keyed. place_in_topic counts keyed.0 keyed.1.now) (sym (get_or-zip topics keys i (0, no_key) (omega (arith, lt, c.requires.topics.as_many, zipped)) (omega (arith, lt, c.requires.topics.as_many, zipped)))))
