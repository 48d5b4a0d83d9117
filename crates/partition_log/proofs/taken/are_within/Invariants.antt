use Rattle.std.proofs.Common.{◌<◌, ℕ, All, get_or, length}
use Rattle.key_counts.specs.Counts.{Entries}
use Rattle.partition_log.proofs.taken.are_within.Given as goal

abbrev pub invariant-loop-w : goal.invariant-loop-w
invariant-loop-w l =
    (k : ℕ) (d : Entries) → k < l.w → All (λ code. code < length (get_or l.workers k d).keys) (get_or l.workers k d).codes
