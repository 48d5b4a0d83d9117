use Rattle.std.proofs.Common.{◌≡◌, ◌++◌, ℕ, arith, subst}
use Rattle.report_rows.specs.Rows.{HasText}
use Rattle.report_rows.specs.ReplayRows.{owner_row, rows_below}
use Rattle.report_rows.proofs.Replayed.{row_more}
use Rattle.report_rows.proofs.replay_rows.write_owners.Goals as goal

pub loop-p-preserved : goal.loop-p-preserved
loop-p-preserved c text begun =
    rw (row_more text c.loop-p.p (owner_row c.args.topics.now c.args.cluster.now.group)) at (c.in_ok-write_owner.ensures _ (c.loop-p.invariant text begun))

pub returns : goal.returns
returns c text begun =
    let end : c.loop-p.p ≡ c.args.cluster.now.group.partitions = omega arith in
    subst (λ (n : ℕ). HasText c.loop-p.writer (text ++ rows_below n (owner_row c.args.topics.now c.args.cluster.now.group))) end (c.loop-p.invariant text begun)
