use Rattle.std.proofs.Common.{◌≡◌, take}
use Rattle.script.proofs.plan.Plan.same.Given as goal

abbrev pub invariant-loop-i : goal.invariant-loop-i
invariant-loop-i l = take l.i l.self-inside.lines.items ≡ take l.i l.other-inside.lines.items
