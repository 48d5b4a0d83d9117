use Rattle.std.proofs.Common.{◌<◌, ℕ, get_or}
use Rattle.key_counts.specs.Counts.{Entries}
use Rattle.key_counts.specs.Partition.{HasCounts}
use Rattle.key_counts.proofs.merging.are_counted.Given as goal

abbrev pub invariant-loop-w : goal.invariant-loop-w
invariant-loop-w l = (k : ℕ) (d : Entries) → k < l.w → HasCounts (get_or l.workers k d)
