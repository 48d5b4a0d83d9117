use Rattle.std.proofs.Common.{◌≤◌, ◌<◌, ℕ, length, slice_index_or}
use Rattle.key_stream.specs.declared.worker.Worker.{Worker}
use Rattle.key_stream.proofs.settling.are_settled.Given as goal

abbrev pub invariant-loop-w : goal.invariant-loop-w
invariant-loop-w l =
    (v : ℕ) (d : Worker) → v < l.w
    → length (slice_index_or l.workers v d).turns.items ≤ slice_index_or l.settled v 0
