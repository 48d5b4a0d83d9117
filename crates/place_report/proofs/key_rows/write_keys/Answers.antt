use Rattle.std.proofs.Common.{◌≡◌, ◌++◌, ℕ, arith, length, subst}
use Rattle.report_rows.specs.ReplayRows.{rows_below}
use Rattle.report_rows.specs.Rows.{HasText}
use Rattle.report_rows.proofs.Replayed.{row_more}
use Rattle.place_report.specs.Private.KeyCounts.{rows_of_key}
use Rattle.place_report.proofs.key_rows.write_keys.Goals as goal

pub loop-id-preserved : goal.loop-id-preserved
loop-id-preserved c text begun =
    let step = c.in_ok-write_rows_of_key.ensures _ (c.loop-id.invariant text begun) in
    rw (row_more text c.loop-id.id (rows_of_key c.args.topics.now c.args.logs.now)) at step

pub returns : goal.returns
returns c text begun =
    let end : c.loop-id.id ≡ length c.args.logs.now.keys = omega arith in
    subst (λ (n : ℕ). HasText c.loop-id.writer (text ++ rows_below n (rows_of_key c.args.topics.now c.args.logs.now))) end (c.loop-id.invariant text begun)
