use Rattle.std.proofs.Common.{◌≡◌, ◌∙◌, ◌++◌, Bool, List, sym, ap}
use Rattle.std.proofs.lemmas.Result.{IfOk-weaker}
use Rattle.partitioner.specs.declared.topic.Topic.{Topic}
use Rattle.ingest.specs.Records.{partition_counts}
use Rattle.place_report.specs.PlaceReport.{table_of}
use Rattle.place_report.specs.PlaceRows.{key_header, partition_header}
use Rattle.place_report.specs.Private.KeyCounts.{all_key_rows}
use Rattle.place_report.specs.Private.Tallies.{partition_rows}
use Rattle.place_report.proofs.Tables.{key_table_is, partition_table_is}
use Rattle.place_report.proofs.place.table_of_logs.Goals as goal

pub returns-then-keys : goal.returns-then-keys
returns-then-keys c records appended =
    let options = c.args.options.now in
    let l = c.args.logs.now in
    let chosen = ap (λ (keys : Bool). table_of keys options records) c.if-keys.true in
    let table = key_table_is options.topics.items (partition_counts options) records l c.requires.counts c.requires.valid appended in
    let named = ap (λ (topics : List Topic). key_header topics ++ all_key_rows topics l) c.as_slice-topics.ensures.value in
    IfOk-weaker c.keys_text.result _ _ (λ text is. is ∙ named ∙ table ∙ sym chosen) c.keys_text.ensures

pub returns : goal.returns
returns c records appended =
    let options = c.args.options.now in
    let l = c.args.logs.now in
    let chosen = ap (λ (keys : Bool). table_of keys options records) c.if-keys.false in
    let table = partition_table_is options.topics.items (partition_counts options) records l c.requires.counts c.requires.valid appended in
    let named = ap (λ (topics : List Topic). partition_header topics ++ partition_rows topics l) c.as_slice-topics.ensures.value in
    IfOk-weaker c.partitions_text.result _ _ (λ text is. is ∙ named ∙ table ∙ sym chosen) c.partitions_text.ensures
