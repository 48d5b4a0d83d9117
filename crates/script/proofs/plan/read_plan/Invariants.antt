use Rattle.std.proofs.Common.{◌≡◌, ◌≤◌, ◌+◌, length}
use Rattle.script.proofs.PlanProgress.{plan_after}
use Rattle.script.proofs.PlanRules.{AreAllowed}
use Rattle.script.specs.Grammar.{lines_from}
use Rattle.script.specs.Plan.{plan_answer, roster_of}
use Rattle.script.proofs.plan.read_plan.Given as goal

abbrev pub invariant-loop-rest : goal.invariant-loop-rest
invariant-loop-rest l = record {
  answer : plan_after l.lines.items (lines_from (l.number + 1) l.rest) ≡ plan_answer l.fn.bytes;
  roster : l.roster ≡ roster_of l.lines.items;
  allowed : AreAllowed l.lines.items;
  few : l.number + length l.rest ≤ length l.fn.bytes;
}

abbrev pub decreases-loop-rest : goal.decreases-loop-rest
decreases-loop-rest l = length l.rest
