use Rattle.std.proofs.Common.{◌≡◌, ◌∙◌, ◌+◌, ◌<◌, ◌++◌, ℕ, List, ap, arith, subst, sym, length, get_or, slice_index_or}
use Rattle.keyed_table.specs.Counts as table
use Rattle.partition_log.specs.Keys.{Key, key_at, plain}
use Rattle.partition_log.specs.Logs.{PartitionLogs, keys_of_log, log_at, place_in}
use Rattle.report_rows.specs.ReplayRows.{rows_below}
use Rattle.report_rows.specs.Rows.{HasText}
use Rattle.report_rows.proofs.Replayed.{row_more}
use Rattle.place_report.specs.PlaceRows.{key_row}
use Rattle.place_report.proofs.KeyCounts.{count_named}
use Rattle.place_report.proofs.key_rows.write_rows_of_key.Goals as goal

pub loop-t-preserved : goal.loop-t-preserved
loop-t-preserved c text begun =
    let l = c.args.logs.now in
    let topics = c.args.topics.now in
    let n = c.args.id in
    let t = c.loop-t.t in
    let key = key_at l.keys n in
    let place : c.place_of_in-p.result ≡ place_in l (t, key) = c.place_of_in-p.ensures.partition ∙ ap (λ k. place_in l (t, k)) c.key-key.ensures in
    let counter : c.get.result ≡ slice_index_or c.index-tables-t.result.counts n 0 = c.get.ensures in
    let counts = ap (λ (ts : table.Counters). slice_index_or ts.counts n 0) c.index-tables-t.is in
    let lt : t < length c.args.tables.now = omega arith in
    let count = counter ∙ counts ∙ (c.requires.tables.counts t c.index-tables-t.result lt).counted n c.requires.key
    ∙ sym (count_named l (place_in l (t, key)) n c.requires.valid c.requires.key) in
    let row = ap (λ (k : Key). key_row topics k c.place_of_in-p.result c.get.result) c.key-key.ensures
    ∙ ap (λ p. key_row topics key p c.get.result) place ∙ ap (λ m. key_row topics key (place_in l (t, key)) m) count in
    let step = c.in_ok-write_key.ensures _ (c.loop-t.invariant text begun) in
    let next = rw row at step in
    rw (row_more text t (λ u. key_row topics key (place_in l (u, key)) (plain (keys_of_log l (place_in l (u, key))) key))) at next

pub returns : goal.returns
returns c text begun =
    let l = c.args.logs.now in
    let key = key_at l.keys c.args.id in
    let end : c.loop-t.t ≡ length l.counts = omega (arith, c.requires.tables.one_each) in
    subst (λ (m : ℕ). HasText c.loop-t.writer (text ++ rows_below m (λ u. key_row c.args.topics.now key (place_in l (u, key)) (plain (keys_of_log l (place_in l (u, key))) key)))) end (c.loop-t.invariant text begun)
