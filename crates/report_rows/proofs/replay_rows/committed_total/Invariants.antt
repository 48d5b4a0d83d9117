use Rattle.std.proofs.Common.{◌≡◌}
use Rattle.lane_words.specs.Sums.{sum_below}
use Rattle.commit_store.specs.Commits.{committed_at}
use Rattle.report_rows.proofs.replay_rows.committed_total.Given as goal

abbrev pub invariant-loop-p : goal.invariant-loop-p
invariant-loop-p l = l.total ≡ sum_below l.p (committed_at l.cluster.store)
