use Rattle.std.proofs.Common.{◌≡◌, ◌∙◌, ◌++◌, List, ap, drop, map}
use Rattle.std.specs.Prelude.{flat_map, vec_items}
use Rattle.std.proofs.lemmas.Result.{IfOk-weaker}
use Rattle.key_index.specs.Keys.{Key}
use Rattle.key_stream.specs.Counting.{occurrences}
use Rattle.report_rows.specs.CountRows.{listed_rows}
use Rattle.report_rows.specs.Rows.{total_row}
use Rattle.count_report.specs.Private.Counted.{TellsCounters, text_of}
use Rattle.count_report.proofs.count.texts_of_counters.Goals as goal

pub returns : goal.returns
returns g c =
    let top = c.args.options.now.top in
    let total = total_row c.args.records c.args.records in
    let merging = c.in_ok-merging.merging in
    let skip = c.bytes_before_keys-skip in
    IfOk-weaker c.texts_of_count.result (λ texts. flat_map vec_items texts.items ≡ listed_rows top merging.keys merging.counts ++ total)
    (TellsCounters c.args.options.now c.args.counters c.args.records)
    (λ texts is keys so.
    let read : List Key = map (drop skip.result) keys in
    is ∙ ap (λ ns. listed_rows top merging.keys ns ++ total) (c.in_ok-merging.ensures.counts keys so)
    ∙ ap (λ ks. listed_rows top ks (occurrences read) ++ total) (c.in_ok-merging.ensures.keys keys so) ∙ ap (λ n. text_of top (map (drop n) keys) c.args.records) skip.ensures) c.texts_of_count.ensures
