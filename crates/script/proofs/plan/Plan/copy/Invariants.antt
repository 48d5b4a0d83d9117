use Rattle.std.proofs.Common.{◌≡◌, take}
use Rattle.script.proofs.plan.Plan.copy.Given as goal

abbrev pub invariant-loop-change : goal.invariant-loop-change
invariant-loop-change l = l.lines.items ≡ take l.change-index l.change-items
