use Rattle.std.proofs.Common.{◌≡◌, ◌*◌, ◌≤◌, ◌^◌}
use Rattle.lane_words.specs.Sums.{sum_below}
use Rattle.timeline_recorder.specs.Reads.{read_again_of}
use Rattle.timeline_recorder.proofs.reads.read_again.Given as goal

abbrev pub invariant-loop-p : goal.invariant-loop-p
invariant-loop-p l = record {
  sum : l.total ≡ sum_below l.p (read_again_of l.columns);
  bound : l.total ≤ l.p * 2 ^ 64;
}
