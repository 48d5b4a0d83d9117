use Rattle.std.proofs.Common.{◌≡◌, ◌≤◌, ◌+◌, ◌++◌, length}
use Rattle.std.specs.Prelude.{zip}
use Rattle.std.specs.List.{filter_map}
use Rattle.script.specs.Grammar.{line_starts, lines_from}
use Rattle.check_report.specs.ScriptFindings.{line_finding, script_lines}
use Rattle.check_report.proofs.script_findings.findings_of_lines.Given as goal

abbrev pub invariant-lines : goal.invariant-lines
invariant-lines l = record {
  few : length l.found.items ≤ l.most;
  told : l.found.items ++ filter_map (line_finding l.topics) (zip (line_starts l.byte l.rest) (lines_from (l.number + 1) l.rest))
      ≡ filter_map (line_finding l.topics) (script_lines l.script);
  byte : l.byte + length l.rest ≡ length l.script;
  number : l.number ≤ l.byte;
}

abbrev pub decreases-lines : goal.decreases-lines
decreases-lines l = length l.rest
