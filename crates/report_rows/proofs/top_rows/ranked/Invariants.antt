use Rattle.std.proofs.Common.{◌≡◌, ◌++◌, drop}
use Rattle.report_rows.proofs.Ranking.{entries}
use Rattle.report_rows.proofs.top_rows.ranked.Given as goal

abbrev pub invariant-loop-id : goal.invariant-loop-id
invariant-loop-id l = entries 0 l.counts ≡ l.ranked.items ++ entries l.id (drop l.id l.counts)
