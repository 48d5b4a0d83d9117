use Rattle.std.proofs.Common.{◌≡◌, ◌++◌, subst}
use Rattle.group_machine.specs.State.{members}
use Rattle.trace_report.proofs.SetTexts.{waiting_step}
use Rattle.trace_report.specs.Cells.{waiting_text}
use Rattle.trace_report.proofs.cells.push_waiting.Goals as goal

pub loop-member-preserved : goal.loop-member-preserved
loop-member-preserved c =
    let w = c.args.world.now in
    let all = c.args.text.now.items ++ waiting_text w (members w.cluster.group) in
    waiting_step w c.loop-member.text.items c.push_if_waiting.new.text.items all c.in-Some.member c.next.new.self
    (subst (λ ms. c.loop-member.text.items ++ waiting_text w ms ≡ all) c.in-Some.ensures.steps c.loop-member.invariant) c.in_ok-push_if_waiting.ensures
