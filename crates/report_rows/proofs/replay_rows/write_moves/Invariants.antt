use Rattle.std.proofs.Common.{◌≡◌, ◌++◌, ℕ, List, drop}
use Rattle.report_rows.specs.Rows.{HasText}
use Rattle.report_rows.specs.ReplayRows.{move_rows}
use Rattle.report_rows.proofs.replay_rows.write_moves.Given as goal

abbrev pub invariant-loop-i : goal.invariant-loop-i
invariant-loop-i l = (text : List ℕ) → HasText l.fn.writer text
    → (now : List ℕ) × HasText l.writer now
    × (now ++ move_rows l.topics l.cluster.group (drop l.i l.moves) ≡ text ++ move_rows l.topics l.cluster.group (drop l.from l.moves))
