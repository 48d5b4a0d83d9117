use Rattle.std.proofs.Common.{◌≡◌, ◌∙◌, ◌++◌, ap, rules, sym}
use Rattle.std.proofs.lemmas.List.{append-nil}
use Rattle.std.specs.Option.{is_some, option_to_list}
use Rattle.script.specs.Plan.{is_no_plan_line, parse_change}
use Rattle.check_report.proofs.Lines.{behind-change, behind-silent, behind-unread, plan-silent, plan-unread, read-change, unread-change}
use Rattle.check_report.proofs.script_findings.check_plan_line.Goals as goal

pub check_change-requires-clause-line : goal.check_change-requires-clause-line
check_change-requires-clause-line c =
    let bytes : c.args.line.now.1.1 ≡ c.line.inside.bytes.now = search rules in
    ap is_no_plan_line bytes ∙ (read-change _ _ _ c.in-Ok-Some.ensures).0

pub check_change-requires-clause-change : goal.check_change-requires-clause-change
check_change-requires-clause-change c =
    let bytes : c.args.line.now.1.1 ≡ c.line.inside.bytes.now = search rules in
    ap parse_change bytes ∙ (read-change _ _ _ c.in-Ok-Some.ensures).1 ∙ search rules

pub returns-in-Ok-None-clause-found : goal.returns-in-Ok-None-clause-found
returns-in-Ok-None-clause-found c =
    let bytes : c.args.line.now.1.1 ≡ c.line.inside.bytes.now = search rules in
    let read = read-change _ _ _ c.in-Ok-None.ensures in
    let none = plan-silent c.args.roster.now c.args.line.now (ap is_no_plan_line bytes ∙ read.0) (ap parse_change bytes ∙ read.1 ∙ c.in-Ok-None.field-0-is) in
    sym (append-nil c.args.found.now.items) ∙ ap (λ o. c.args.found.now.items ++ option_to_list o) (sym none)

pub returns-in-Ok-None-clause-roster : goal.returns-in-Ok-None-clause-roster
returns-in-Ok-None-clause-roster c =
    let bytes : c.args.line.now.1.1 ≡ c.line.inside.bytes.now = search rules in
    let read = read-change _ _ _ c.in-Ok-None.ensures in
    sym (behind-silent c.args.roster.now c.args.line.now.1.1 (ap is_no_plan_line bytes ∙ read.0) (ap parse_change bytes ∙ read.1 ∙ c.in-Ok-None.field-0-is))

pub returns-in-Ok-None-clause-change : goal.returns-in-Ok-None-clause-change
returns-in-Ok-None-clause-change c none =
    let bytes : c.args.line.now.1.1 ≡ c.line.inside.bytes.now = search rules in
    let read = read-change _ _ _ c.in-Ok-None.ensures in
    sym (ap is_some (ap parse_change bytes ∙ read.1 ∙ c.in-Ok-None.field-0-is))

pub returns-in_ok-check_change-in-Ok-Some-clause-roster : goal.returns-in_ok-check_change-in-Ok-Some-clause-roster
returns-in_ok-check_change-in-Ok-Some-clause-roster c =
    let bytes : c.args.line.now.1.1 ≡ c.line.inside.bytes.now = search rules in
    let read = read-change _ _ _ c.in-Ok-Some.ensures in
    c.in_ok-check_change-in-Ok-Some.ensures.roster
    ∙ sym (behind-change c.args.roster.now c.args.line.now.1.1 _ (ap is_no_plan_line bytes ∙ read.0) (ap parse_change bytes ∙ read.1 ∙ search rules))

pub returns-in_ok-check_change-in-Ok-Some-clause-change : goal.returns-in_ok-check_change-in-Ok-Some-clause-change
returns-in_ok-check_change-in-Ok-Some-clause-change c none =
    let bytes : c.args.line.now.1.1 ≡ c.line.inside.bytes.now = search rules in
    sym (ap is_some (ap parse_change bytes ∙ (read-change _ _ _ c.in-Ok-Some.ensures).1 ∙ c.in-Ok-Some.field-0-is))

pub returns-in_ok-push-in-Err-BadLine-clause-found : goal.returns-in_ok-push-in-Err-BadLine-clause-found
returns-in_ok-push-in-Err-BadLine-clause-found c =
    let bytes : c.args.line.now.1.1 ≡ c.line.inside.bytes.now = search rules in
    let unread = unread-change _ _ _ (rw c.in-Err-BadLine.field-0-is at c.in-Err-BadLine.ensures) in
    let number : c.args.line.now.1.0 ≡ c.line.inside.number = search rules in
    rw (plan-unread c.args.roster.now c.args.line.now c.in-Err-BadLine.number (ap is_no_plan_line bytes ∙ unread.0) (number ∙ unread.1)) (search rules)

pub returns-in_ok-push-in-Err-BadLine-clause-roster : goal.returns-in_ok-push-in-Err-BadLine-clause-roster
returns-in_ok-push-in-Err-BadLine-clause-roster c =
    let bytes : c.args.line.now.1.1 ≡ c.line.inside.bytes.now = search rules in
    let unread = unread-change _ _ _ (rw c.in-Err-BadLine.field-0-is at c.in-Err-BadLine.ensures) in
    sym (behind-unread c.args.roster.now c.args.line.now.1.1 (ap is_no_plan_line bytes ∙ unread.0))

pub returns-in_ok-push-in-Err-BadLine-clause-change : goal.returns-in_ok-push-in-Err-BadLine-clause-change
returns-in_ok-push-in-Err-BadLine-clause-change c none =
    let bytes : c.args.line.now.1.1 ≡ c.line.inside.bytes.now = search rules in
    let unread = unread-change _ _ _ (rw c.in-Err-BadLine.field-0-is at c.in-Err-BadLine.ensures) in
    let number : c.args.line.now.1.0 ≡ c.line.inside.number = search rules in
    absurd (cc (sym (plan-unread c.args.roster.now c.args.line.now c.in-Err-BadLine.number (ap is_no_plan_line bytes ∙ unread.0) (number ∙ unread.1)) ∙ none))
