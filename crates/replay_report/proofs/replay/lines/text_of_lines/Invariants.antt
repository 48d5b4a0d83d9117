use Rattle.std.proofs.Common.{◌≡◌, [], Err, List, ℕ, drop}
use Rattle.lane_words.specs.declared.Refusal.{Refusal}
use Rattle.report_rows.specs.Rows.{HasText}
use Rattle.replay_report.specs.ReplayReport.{text_before, text_of_lines}
use Rattle.replay_report.proofs.replay.lines.text_of_lines.Given as goal

abbrev pub invariant-loop-line : goal.invariant-loop-line
invariant-loop-line g l = record {
  text : (now : List ℕ) × HasText l.writer now
      × (text_before now (text_of_lines l.topics l.top l.batch l.world (drop l.line-index l.lines)) ≡ text_before [] (text_of_lines l.topics l.top l.batch l.fn.world l.lines));
  fault : (e : Refusal) → text_of_lines l.topics l.top l.batch l.world (drop l.line-index l.lines) ≡ Err e → text_of_lines l.topics l.top l.batch l.fn.world l.lines ≡ Err e;
}
