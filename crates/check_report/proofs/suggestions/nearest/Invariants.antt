use Rattle.std.proofs.Common.{◌≡◌, ◌+◌, None, take}
use Rattle.std.specs.Prelude.{fold}
use Rattle.check_report.specs.Suggestions.{nearer}
use Rattle.check_report.specs.declared.suggestions.TheConstants.{MOST_EDITS}
use Rattle.check_report.proofs.suggestions.nearest.Given as goal

abbrev pub invariant-loop-i : goal.invariant-loop-i
invariant-loop-i l = (l.least, l.nearest) ≡ fold (nearer l.word) (MOST_EDITS + 1, None) (take l.i l.forms)
