use Rattle.std.proofs.Common.{◌≡◌, ◌∙◌, ◌++◌, ℕ, ap, arith, subst}
use Rattle.commit_store.specs.Commits.{committed_at}
use Rattle.report_rows.specs.Rows.{HasText}
use Rattle.report_rows.specs.ReplayRows.{end_of, offset_row, rows_below}
use Rattle.report_rows.proofs.Replayed.{row_more}
use Rattle.report_rows.proofs.replay_rows.write_offsets.Goals as goal

pub loop-p-preserved : goal.loop-p-preserved
loop-p-preserved c text begun =
    let s = c.args.cluster.now in
    let committed = c.committed.ensures ∙ ap (λ x. committed_at x c.loop-p.p) c.store-store.ensures.store in
    let end = c.len.ensures ∙ ap (λ l. end_of l c.loop-p.p) c.logs-logs.ensures.logs in
    let step = rw (committed, end) at (c.in_ok-write_offset.ensures _ (c.loop-p.invariant text begun)) in
    rw (row_more text c.loop-p.p (λ p. offset_row c.args.topics.now p (committed_at s.store p) (end_of s.logs p))) at step

pub returns : goal.returns
returns c text begun =
    let s = c.args.cluster.now in
    let end : c.loop-p.p ≡ s.group.partitions = omega arith in
    subst (λ (n : ℕ). HasText c.loop-p.writer (text ++ rows_below n (λ p. offset_row c.args.topics.now p (committed_at s.store p) (end_of s.logs p)))) end (c.loop-p.invariant text begun)
