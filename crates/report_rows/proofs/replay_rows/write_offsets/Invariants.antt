use Rattle.std.proofs.Common.{◌++◌, ℕ, List}
use Rattle.commit_store.specs.Commits.{committed_at}
use Rattle.report_rows.specs.Rows.{HasText}
use Rattle.report_rows.specs.ReplayRows.{end_of, offset_row, rows_below}
use Rattle.report_rows.proofs.replay_rows.write_offsets.Given as goal

abbrev pub invariant-loop-p : goal.invariant-loop-p
invariant-loop-p l = (text : List ℕ) → HasText l.fn.writer text
    → HasText l.writer (text ++ rows_below l.p (λ p. offset_row l.topics p (committed_at l.cluster.store p) (end_of l.cluster.logs p)))
