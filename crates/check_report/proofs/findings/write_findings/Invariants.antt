use Rattle.std.proofs.Common.{◌++◌, ℕ, List, take}
use Rattle.std.specs.Prelude.{flat_map}
use Rattle.report_rows.specs.Rows.{HasText}
use Rattle.check_report.specs.Findings.{finding_row}
use Rattle.check_report.proofs.findings.write_findings.Given as goal

abbrev pub invariant-loop-i : goal.invariant-loop-i
invariant-loop-i l = (text : List ℕ) → HasText l.fn.writer text → HasText l.writer (text ++ flat_map finding_row (take l.i l.findings))
