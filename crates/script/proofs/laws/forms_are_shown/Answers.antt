use Rattle.script.proofs.Shown.{action_is_shown, begins_with_form, change_is_shown}
use Rattle.script.proofs.laws.forms_are_shown.Goals as goal

pub returns-clause-script : goal.returns-clause-script
returns-clause-script c = action_is_shown

pub returns-clause-plan : goal.returns-clause-plan
returns-clause-plan c = change_is_shown

pub returns-clause-word : goal.returns-clause-word
returns-clause-word c = begins_with_form
