use Rattle.std.proofs.Common.{◌≡◌, ◌≤◌, ◌+◌, length}
use Rattle.script.proofs.Progress.{after}
use Rattle.script.specs.Grammar.{lines_from}
use Rattle.script.specs.Replay.{answer_of, read_answer_in}
use Rattle.script.proofs.replay.lines_in.Given as goal

abbrev pub invariant-loop-rest : goal.invariant-loop-rest
invariant-loop-rest l = record {
  answer : after l.lines.items (answer_of l.topics (lines_from (l.number + 1) l.rest))
      ≡ read_answer_in l.topics l.fn.bytes;
  few : l.number + length l.rest ≤ length l.fn.bytes;
}

abbrev pub decreases-loop-rest : goal.decreases-loop-rest
decreases-loop-rest l = length l.rest
