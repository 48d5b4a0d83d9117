use Rattle.std.proofs.Common.{◌≡◌, ◌∙◌, ◌++◌, ℕ, List, ap, arith, subst, sym}
use Rattle.partition_log.specs.Logs.{keys_of_log}
use Rattle.report_rows.specs.ReplayRows.{rows_below}
use Rattle.report_rows.specs.Rows.{HasText}
use Rattle.report_rows.proofs.Replayed.{row_more}
use Rattle.place_report.specs.PlaceRows.{partition_row}
use Rattle.place_report.proofs.partition_rows.write_partitions.Goals as goal

pub loop-p-preserved : goal.loop-p-preserved
loop-p-preserved g c = record {
  len = c.tally_of-tally.ensures.len ∙ c.loop-p.invariant.len;
  zeros = c.tally_of-tally.ensures.zeros;
  rows = λ text begun.
      let l = g.L.LogRead.contents c.args.logs.now in
      let step = c.in_ok-write_partition.ensures _ (c.loop-p.invariant.rows text begun) in
      rw (row_more text c.loop-p.p (λ p. partition_row c.args.topics.now p (keys_of_log l p))) at step;
}

pub returns : goal.returns
returns g c text begun =
    let l = g.L.LogRead.contents c.args.logs.now in
    let end : c.loop-p.p ≡ l.partitions = omega arith in
    subst (λ (n : ℕ). HasText c.loop-p.writer (text ++ rows_below n (λ p. partition_row c.args.topics.now p (keys_of_log l p)))) end (c.loop-p.invariant.rows text begun)
