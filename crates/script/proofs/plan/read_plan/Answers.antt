use Rattle.std.proofs.Common.{◌≡◌, ◌≤◌, ◌∙◌, ◌+◌, ap, arith, inl, length, refl, sym}
use Rattle.std.proofs.lemmas.Bool.Decides.{nat_tests}
use Rattle.std.proofs.lemmas.List.Sums.{fold_push}
use Rattle.std.proofs.lemmas.Result.{err_from_is_err_and}
use Rattle.script.proofs.PlanProgress.{not_refused, plan-all, plan-fault, plan-refused, plan-silent, plan-accepted, with_lines, without_a_line}
use Rattle.script.proofs.PlanRules.{none-allowed, push-allowed}
use Rattle.script.specs.Plan.{entered, nobody_yet, plan_answer, plan_of}
use Rattle.script.proofs.plan.read_plan.Goals as goal

pub loop-rest-init : goal.loop-rest-init
unfolding plan_of
loop-rest-init c =
    rw c.new-lines.ensures.items
    (record { answer = refl; roster = c.new-roster.ensures; allowed = none-allowed; few = omega arith })

pub returns-in_err-change : goal.returns-in_err-change
returns-in_err-change c =
    let p = err_from_is_err_and c.from_residual.result c.from_residual.ensures.1 in
    rw (p.1, p.2)
    (plan-refused c.loop-rest.lines.items (plan_answer c.args.bytes.now)
    (c.loop-rest.number + 1) c.loop-rest.rest.now c.first_line.result.0.now
    c.first_line.result.1.now _ (c.first_line.ensures.lines (c.loop-rest.number + 1))
    c.loop-rest.invariant.answer c.in_err-change.ensures)

pub returns-in_err-take : goal.returns-in_err-take
returns-in_err-take c =
    let p = err_from_is_err_and c.from_residual-in_err-take.result c.from_residual-in_err-take.ensures.1 in
    let parsed = rw c.in-Some.is at c.in_ok-change.ensures in
    let refused = rw c.loop-rest.invariant.roster at c.in_err-take.ensures.answer in
    rw (p.1, p.2)
    (plan-fault c.loop-rest.lines.items (plan_answer c.args.bytes.now)
    (c.loop-rest.number + 1) c.loop-rest.rest.now c.first_line.result.0.now
    c.first_line.result.1.now c.in-Some.change _
    (c.first_line.ensures.lines (c.loop-rest.number + 1))
    c.loop-rest.invariant.answer parsed refused)

pub loop-rest-preserved-in_ok-push : goal.loop-rest-preserved-in_ok-push
loop-rest-preserved-in_ok-push c =
    let n = c.loop-rest.number + 1 in
    let before = c.loop-rest.lines.items in
    let change = c.in-Some.change in
    let parsed = rw c.in-Some.is at c.in_ok-change.ensures in
    let taken = rw c.loop-rest.invariant.roster at c.in_ok-take.ensures.answer in
    let roster = c.in_ok-take.ensures.ok in
    rw c.in_ok-push.ensures.items
    (record {
      answer =
          plan-accepted before (plan_answer c.args.bytes.now) n c.loop-rest.rest.now
          c.first_line.result.0.now c.first_line.result.1.now change (c.first_line.ensures.lines n)
          c.loop-rest.invariant.answer parsed taken;
      roster =
          roster
          ∙ ap (λ before. entered before change) c.loop-rest.invariant.roster
          ∙ sym (fold_push entered nobody_yet before change);
      allowed =
          push-allowed n before change c.loop-rest.invariant.allowed (not_refused n before change taken);
      few = omega arith;
    })

pub loop-rest-preserved : goal.loop-rest-preserved
loop-rest-preserved c =
    let silent = rw c.in_default.is at c.in_ok-change.ensures in
    record {
      answer =
          plan-silent c.loop-rest.lines.items (plan_answer c.args.bytes.now)
          (c.loop-rest.number + 1) c.loop-rest.rest.now c.first_line.result.0.now
          c.first_line.result.1.now (c.first_line.ensures.lines (c.loop-rest.number + 1))
          c.loop-rest.invariant.answer silent;
      roster = c.loop-rest.invariant.roster;
      allowed = c.loop-rest.invariant.allowed;
      few = omega arith;
    }

pub returns-then-is_empty : goal.returns-then-is_empty
returns-then-is_empty c =
    let none : length c.loop-rest.rest.now ≡ 0 = grind (arith, nat_tests) in
    let empty : length c.loop-rest.lines.items ≡ 0 = grind (arith, nat_tests) in
    inl
    (sym (without_a_line c.loop-rest.lines.items empty)
    ∙ plan-all c.loop-rest.lines.items (plan_answer c.args.bytes.now) (c.loop-rest.number + 1)
    c.loop-rest.rest.now c.loop-rest.invariant.answer none)

pub returns : goal.returns
returns c =
    let none : length c.loop-rest.rest.now ≡ 0 = grind (arith, nat_tests) in
    let some : 1 ≤ length c.loop-rest.lines.items = grind (arith, nat_tests) in
    inl
    (sym (with_lines c.loop-rest.lines.items some)
    ∙ plan-all c.loop-rest.lines.items (plan_answer c.args.bytes.now) (c.loop-rest.number + 1)
    c.loop-rest.rest.now c.loop-rest.invariant.answer none)
