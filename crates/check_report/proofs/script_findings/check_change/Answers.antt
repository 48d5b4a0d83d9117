use Rattle.std.proofs.Common.{◌≡◌, ◌∙◌, ◌++◌, ap, codes, rules, sym}
use Rattle.std.proofs.lemmas.List.{append-nil}
use Rattle.std.specs.Option.{option_to_list}
use Rattle.script.specs.Plan.{change_fault}
use Rattle.check_report.proofs.Lines.{plan-fits, plan-nobody, plan-refused, refused-same, taken-bad, taken-nobody, taken-ok}
use Rattle.check_report.proofs.script_findings.check_change.Goals as goal

pub returns-in-Ok-clause-found : goal.returns-in-Ok-clause-found
returns-in-Ok-clause-found c =
    let number : c.line.inside.number ≡ c.args.line.now.1.0 = search rules in
    let fits = taken-ok (change_fault c.line.inside.number c.args.roster.now c.args.change.now) _ c.in-Ok.ensures.answer in
    let none = plan-fits c.args.roster.now c.args.line.now c.args.change.now c.requires.line c.requires.change (ap (λ n. change_fault n c.args.roster.now c.args.change.now) (sym number) ∙ fits) in
    sym (append-nil c.args.found.now.items) ∙ ap (λ o. c.args.found.now.items ++ option_to_list o) (sym none)

pub returns-in_ok-push-in-Err-BadLine-clause-found : goal.returns-in_ok-push-in-Err-BadLine-clause-found
returns-in_ok-push-in-Err-BadLine-clause-found c =
    let number : c.line.inside.number ≡ c.args.line.now.1.0 = search rules in
    let refused = taken-bad (change_fault c.line.inside.number c.args.roster.now c.args.change.now) _ (rw c.in-Err-BadLine.field-0-is at c.in-Err-BadLine.ensures.answer) in
    let finding = plan-refused c.args.roster.now c.args.line.now c.args.change.now _ c.requires.line c.requires.change (ap (λ n. change_fault n c.args.roster.now c.args.change.now) (sym number) ∙ refused) in
    let same = refused-same c.line.inside.number _ c.args.roster.now c.args.change.now refused in
    let kept : c.take.new.self ≡ c.args.roster.now = search (rules, same) in
    rw finding (search (rules, kept))

pub returns-in_ok-push-in-Err-NobodyLeft-clause-found : goal.returns-in_ok-push-in-Err-NobodyLeft-clause-found
returns-in_ok-push-in-Err-NobodyLeft-clause-found c =
    let number : c.line.inside.number ≡ c.args.line.now.1.0 = search rules in
    let nobody = taken-nobody (change_fault c.line.inside.number c.args.roster.now c.args.change.now) c.in-Err-NobodyLeft.number (rw c.in-Err-NobodyLeft.field-0-is at c.in-Err-NobodyLeft.ensures.answer) in
    let finding = plan-nobody c.args.roster.now c.args.line.now c.args.change.now c.in-Err-NobodyLeft.number c.requires.line c.requires.change (ap (λ n. change_fault n c.args.roster.now c.args.change.now) (sym number) ∙ nobody) in
    let said : c.in_ok-words-in-Err-NobodyLeft.words.items ≡ codes "nobody is present after this line" = search rules in
    rw finding (search (rules, said))
