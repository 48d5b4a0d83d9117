use Rattle.std.proofs.Common.{◌≡◌, ◌∙◌, [], ℕ, List, length, sym, ap}
use Rattle.std.specs.Prelude.{Option, unwrap_or}
use Rattle.std.proofs.lemmas.List.{length-map}
use Rattle.partition_log.specs.Keys.{Key, key_at}
use Rattle.partition_log.specs.Logs.{keys_of_log, log_at}
use Rattle.place_report.specs.PlaceRows.{largest_of}
use Rattle.place_report.proofs.Headers.{partition_row-is}
use Rattle.place_report.proofs.partition_rows.write_partition.Goals as goal

pub returns-in-Some : goal.returns-in-Some
returns-in-Some g c =
    let l = g.L.LogRead.contents c.args.logs.now in
    let fields = rw c.in-Some.is at c.partition_among-number.ensures.found in
    let records = length-map (log_at l c.args.p) (key_at l.keys) ∙ sym c.len.ensures in
    let largest = ap (λ (found : Option Key). unwrap_or found []) (sym c.requires.tally.largest) ∙ sym c.key_or_empty-largest.ensures in
    rw (partition_row-is c.args.topics.now c.args.p (keys_of_log l c.args.p) _ _ _ _ _ fields records (sym c.requires.tally.different) largest (sym c.requires.tally.most))
    (rw (c.as_bytes-partition.ensures.value, c.format.ensures.text, c.as_bytes-records.ensures.value, c.format-2.ensures.text, c.as_bytes-keys.ensures.value, c.format-3.ensures.text, c.as_bytes-most.ensures.value, c.format-4.ensures.text) at c.write_row.ensures)

pub returns-in-None : goal.returns-in-None
returns-in-None g c =
    let l = g.L.LogRead.contents c.args.logs.now in
    let fields = rw c.in-None.is at c.partition_among-number.ensures.none in
    let records = length-map (log_at l c.args.p) (key_at l.keys) ∙ sym c.len.ensures in
    let largest = ap (λ (found : Option Key). unwrap_or found []) (sym c.requires.tally.largest) ∙ sym c.key_or_empty-largest.ensures in
    rw (partition_row-is c.args.topics.now c.args.p (keys_of_log l c.args.p) _ _ _ _ _ fields records (sym c.requires.tally.different) largest (sym c.requires.tally.most))
    (rw (c.as_bytes-partition.ensures.value, c.format.ensures.text, c.as_bytes-records.ensures.value, c.format-2.ensures.text, c.as_bytes-keys.ensures.value, c.format-3.ensures.text, c.as_bytes-most.ensures.value, c.format-4.ensures.text) at c.write_row-in-None.ensures)
