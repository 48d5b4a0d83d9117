use Rattle.std.proofs.Common.{◌≡◌, ◌<◌, ◌≤◌, ℕ, None, length, slice_index_or}
use Rattle.std.specs.Option.{option_or}
use Rattle.group_machine.proofs.group.moves.hold.Given as goal

abbrev pub invariant-loop-partition : goal.invariant-loop-partition
invariant-loop-partition l = record {
  long : length l.last ≡ length l.fn.last;
  done : (k : ℕ) → k < l.partition → slice_index_or l.last k None ≡ option_or (slice_index_or l.takers k None) (slice_index_or l.fn.last k None);
  rest : (k : ℕ) → l.partition ≤ k → slice_index_or l.last k None ≡ slice_index_or l.fn.last k None;
}
