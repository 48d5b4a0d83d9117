use Rattle.std.proofs.Common.{◌≡◌, ◌+◌, ◌∙◌, ap, ap₂, drop, length, map, rules, subst, sym, vec_items, vec_len}
use Rattle.std.proofs.lemmas.List.{length-map}
use Rattle.partition_log.specs.Private.Filled.{filled}
use Rattle.partition_log.specs.Private.Shares.{IsFillable, numbers_in, places_in, read_chunks}
use Rattle.partition_log.proofs.Sharing.{filled-chunk, filled-long}
use Rattle.partition_log.proofs.shares.fill_share.Goals as goal

pub fill_chunk-requires : goal.fill_chunk-requires
fill_chunk-requires c =
    let counted : length c.loop-i.logs.items ≡ vec_len c.loop-i.logs = search rules in
    subst (λ n. IsFillable n c.coded_chunk.result) (sym c.loop-i.invariant.each ∙ counted) (c.coded_chunk.ensures.valid c.args.partitions c.requires.tables)

pub loop-i-preserved : goal.loop-i-preserved
loop-i-preserved c =
    let i = c.loop-i.i in
    let inv = c.loop-i.invariant in
    let coded = c.coded_chunk.result in
    let workers = c.args.workers.now in
    let chunks = c.args.chunks.now in
    let places = c.args.tables.now.places.items in
    let numbers = c.args.tables.now.numbers.items in
    let old = map vec_items c.loop-i.logs.items in
    let made = c.in_ok-fill_chunk.ensures in
    let read = made ∙ ap₂ (λ xs ns. filled old xs ns) c.coded_chunk.ensures.places c.coded_chunk.ensures.numbers in
    record {
      each = sym (length-map c.fill_chunk.new.logs.items vec_items) ∙ ap length made ∙ filled-long old (places_in coded) (numbers_in coded) ∙ length-map c.loop-i.logs.items vec_items ∙ inv.each;
      filled_is = ap (λ ls. filled ls (read_chunks places workers (drop (i + 1) chunks)) (read_chunks numbers workers (drop (i + 1) chunks))) read
          ∙ sym (filled-chunk places numbers workers old chunks i _ c.loop-i-test.true) ∙ inv.filled_is;
    }
