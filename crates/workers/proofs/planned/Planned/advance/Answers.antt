use Rattle.std.proofs.Common.{rules, ◌≡◌, ◌∙◌, true, Some, Err, slice_get, ap, sym, inl, inr, Ok}
use Rattle.workers.specs.Progress.{is_at_rest}
use Rattle.workers.specs.Private.View.{planned_view}
use Rattle.workers.proofs.Progressed.{advanced_by, applied_progress, due_refused, is_due_by, looked_up}
use Rattle.workers.proofs.planned.Planned.advance.Goals as goal

pub returns-in_err-apply-clause-answer : goal.returns-in_err-apply-clause-answer
returns-in_err-apply-clause-answer c =
    let found = c.in-Some.ensures.lookup in
    let at : slice_get c.self.inside.plan c.self.inside.applied ≡ Some c.in-Some.change.now = looked_up c.self.inside.plan c.lines.result.now c.self.inside.applied c.in-Some.change.now c.lines.ensures.lines found.0 found.1 in
    let replied : c.from_residual.result ≡ Err c.in_err-apply.field-0.0 = search rules in
    inr (replied ∙ ap (λ why. Err why) (due_refused (planned_view c.self.inside) c.in-Some.change.now c.in_err-apply.field-0.0 c.self.invariant at c.in_err-apply.ensures.answer))

pub invariant_of-self-2 : goal.invariant_of-self-2
invariant_of-self-2 c =
    let found = c.in-Some.ensures.lookup in
    let at : slice_get c.self.inside.plan c.self.inside.applied ≡ Some c.in-Some.change.now = looked_up c.self.inside.plan c.lines.result.now c.self.inside.applied c.in-Some.change.now c.lines.ensures.lines found.0 found.1 in
    let rest : is_at_rest c.self.inside.cluster.group ≡ true = search rules in
    applied_progress (planned_view c.self.inside) c.in-Some.change.now c.apply.new.cluster c.self.invariant at rest c.in_ok-apply.ensures.ok

pub returns-clause-answer : goal.returns-clause-answer
returns-clause-answer c =
    let found = c.in-Some.ensures.lookup in
    let at : slice_get c.self.inside.plan c.self.inside.applied ≡ Some c.in-Some.change.now = looked_up c.self.inside.plan c.lines.result.now c.self.inside.applied c.in-Some.change.now c.lines.ensures.lines found.0 found.1 in
    let rest : is_at_rest c.self.inside.cluster.group ≡ true = search rules in
    rw (sym c.self.view_is) (inl (ap (λ b. Ok b) (sym (is_due_by (planned_view c.self.inside) c.in-Some.change.now at rest))))

pub returns-clause-ok : goal.returns-clause-ok
returns-clause-ok c =
    let found = c.in-Some.ensures.lookup in
    let at : slice_get c.self.inside.plan c.self.inside.applied ≡ Some c.in-Some.change.now = looked_up c.self.inside.plan c.lines.result.now c.self.inside.applied c.in-Some.change.now c.lines.ensures.lines found.0 found.1 in
    let rest : is_at_rest c.self.inside.cluster.group ≡ true = search rules in
    rw (sym c.self.view_is) (advanced_by (planned_view c.self.inside) c.in-Some.change.now c.apply.new.cluster at rest c.in_ok-apply.ensures.ok)

pub returns-clause-valid : goal.returns-clause-valid
returns-clause-valid c =
    let found = c.in-Some.ensures.lookup in
    let at : slice_get c.self.inside.plan c.self.inside.applied ≡ Some c.in-Some.change.now = looked_up c.self.inside.plan c.lines.result.now c.self.inside.applied c.in-Some.change.now c.lines.ensures.lines found.0 found.1 in
    let rest : is_at_rest c.self.inside.cluster.group ≡ true = search rules in
    applied_progress (planned_view c.self.inside) c.in-Some.change.now c.apply.new.cluster c.self.invariant at rest c.in_ok-apply.ensures.ok
