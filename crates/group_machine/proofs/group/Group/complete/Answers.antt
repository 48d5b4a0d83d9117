use Rattle.std.proofs.Common.{sym, subst}
use Rattle.group_machine.specs.Valid.{IsValidGroup}
use Rattle.group_machine.specs.Private.Changes.{IsPlanned}
use Rattle.group_machine.specs.Private.GroupView.{group_view}
use Rattle.group_machine.proofs.CompletionLemmas.{complete_valid, next_valid}
use Rattle.group_machine.proofs.group.Group.complete.Goals as goal

pub returns-in-Some-clause-valid : goal.returns-in-Some-clause-valid
returns-in-Some-clause-valid c =
    let g = group_view c.args.self.now in
    let planned = subst (IsPlanned g) c.in-Some.is c.requires.planned in
    subst IsValidGroup (sym c.make.ensures) (complete_valid g c.requires.state planned.0)

pub returns-in_default-clause-valid : goal.returns-in_default-clause-valid
returns-in_default-clause-valid c =
    let g = group_view c.args.self.now in
    next_valid g c.requires.state (subst (IsPlanned g) c.in_default.is c.requires.planned)
