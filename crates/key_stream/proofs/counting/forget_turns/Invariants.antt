use Rattle.std.proofs.Common.{◌≡◌, ◌<◌, ℕ, [], length, slice_index_or}
use Rattle.key_stream.specs.Rounds.{entries_in}
use Rattle.key_stream.specs.declared.worker.Worker.{Worker}
use Rattle.key_stream.proofs.counting.forget_turns.Given as goal

abbrev pub invariant-loop-w : goal.invariant-loop-w
invariant-loop-w l = record {
  len : length l.workers ≡ length l.fn.workers;
  entries : entries_in l.workers ≡ entries_in l.fn.workers;
  turns : (i : ℕ) (d : Worker) → i < l.w → (slice_index_or l.workers i d).turns.items ≡ [];
}
