use Rattle.std.proofs.Common.{◌∙◌, None, Some, inl, refl, sym}
use Rattle.std.proofs.lemmas.Result.{err_from_is_err_and}
use Rattle.script.proofs.PlanProgress.{parsed-read, parsed-refused}
use Rattle.script.proofs.plan.parse_change.Goals as goal

pub returns-in_err-action : goal.returns-in_err-action
returns-in_err-action c =
    let p = err_from_is_err_and c.from_residual.result c.from_residual.ensures.1 in
    rw (p.1, p.2) (parsed-refused c.args.number c.args.line.now _ c.in_err-action.ensures)

pub returns-in_default : goal.returns-in_default
returns-in_default c =
    let silent = rw c.in_default.is at c.in_ok-action.ensures in
    inl (sym (parsed-read c.args.number c.args.line.now None silent))

pub returns-in_default-change_of : goal.returns-in_default-change_of
returns-in_default-change_of c =
    let parsed = rw c.in-Some.is at c.in_ok-action.ensures in
    let none = sym c.change_of.ensures ∙ c.in_default-change_of.is in
    inl (sym (parsed-read c.args.number c.args.line.now (Some c.in-Some.action) parsed ∙ rw none refl))

pub returns : goal.returns
returns c =
    let parsed = rw c.in-Some.is at c.in_ok-action.ensures in
    let some = sym c.change_of.ensures ∙ c.in-Some-change_of.is in
    inl (sym (parsed-read c.args.number c.args.line.now (Some c.in-Some.action) parsed ∙ rw some refl))
