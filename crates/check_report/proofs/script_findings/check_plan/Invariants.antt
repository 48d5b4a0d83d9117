use Rattle.std.proofs.Common.{◌≡◌, ◌≤◌, ◌+◌, ◌++◌, [], length}
use Rattle.std.specs.Prelude.{◌||◌, zip}
use Rattle.script.specs.Grammar.{line_starts, lines_from}
use Rattle.script.specs.Plan.{nobody_yet}
use Rattle.check_report.specs.ScriptFindings.{has_change, plan_findings_from, script_lines}
use Rattle.check_report.proofs.script_findings.check_plan.Given as goal

abbrev pub invariant-lines : goal.invariant-lines
invariant-lines l = record {
  few : length l.found.items ≤ l.most;
  told : l.found.items ++ plan_findings_from l.roster (zip (line_starts l.byte l.rest) (lines_from (l.number + 1) l.rest))
      ≡ plan_findings_from nobody_yet (script_lines l.script);
  change : l.found.items ≡ [] → (l.changes || has_change (zip (line_starts l.byte l.rest) (lines_from (l.number + 1) l.rest))) ≡ has_change (script_lines l.script);
  byte : l.byte + length l.rest ≡ length l.script;
  number : l.number ≤ l.byte;
}

abbrev pub decreases-lines : goal.decreases-lines
decreases-lines l = length l.rest
