use Rattle.std.proofs.Common.{◌≡◌}
use Rattle.check_report.specs.Places.{line_at}
use Rattle.check_report.proofs.places.line_of.Given as goal

abbrev pub invariant-loop-i : goal.invariant-loop-i
invariant-loop-i l = l.line ≡ line_at l.file l.i
