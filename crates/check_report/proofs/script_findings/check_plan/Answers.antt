use Rattle.std.proofs.Common.{◌≡◌, ◌+◌, ◌-◌, ◌∙◌, List, ap, arith, length, rules, sym}
use Rattle.std.specs.Prelude.{◌||◌, zip}
use Rattle.std.specs.List.{cons_option}
use Rattle.std.specs.Option.{is_some}
use Rattle.script.specs.Grammar.{line_starts, lines_from}
use Rattle.script.specs.Plan.{Roster, parse_change}
use Rattle.check_report.specs.ScriptFindings.{ScriptLine, has_change, plan_finding, plan_findings_from}
use Rattle.check_report.proofs.Lines.{none_told, or-next, plan-end, plan-next, zipped}
use Rattle.check_report.proofs.Told.{told_all, told_few, told_next}
use Rattle.check_report.proofs.script_findings.check_plan.Goals as goal

pub lines-preserved : goal.lines-preserved
lines-preserved c =
    let next = zipped _ _ _ _ _ _ (c.first_line.ensures.starts c.lines.byte) (c.first_line.ensures.lines (c.lines.number + 1)) in
    let line : ScriptLine = (c.lines.byte, (c.lines.number + 1, c.first_line.result.0.now)) in
    let rest = zip (line_starts (c.lines.byte + (length c.lines.rest.now - length c.first_line.result.1.now)) c.first_line.result.1.now) (lines_from ((c.lines.number + 1) + 1) c.first_line.result.1.now) in
    let finding = plan_finding c.lines.roster line in
    let grown = c.in_ok-change.ensures.found in
    let roster = c.in_ok-change.ensures.roster in
    record {
      few = told_few c.args.most c.lines.found.items _ finding (omega arith) grown;
      told = told_next c.lines.found.items _ _ _ _ finding c.lines.invariant.told
          (plan-next c.lines.roster _ rest line next ∙ ap (λ (r : Roster). cons_option finding (plan_findings_from r rest)) (sym roster)) grown;
      change = λ none.
          let parts = none_told c.lines.found.items finding (sym grown ∙ none) in
          ap (λ b. b || has_change rest) (c.either-changes.ensures ∙ ap (λ b. c.lines.changes || b) (c.in_ok-change.ensures.change parts.1))
          ∙ or-next c.lines.changes (is_some (parse_change c.first_line.result.0.now)) (has_change rest)
          ∙ ap (λ (ls : List ScriptLine). c.lines.changes || has_change ls) (sym next) ∙ c.lines.invariant.change parts.0;
      byte = omega (arith, c.lines.invariant.byte, c.first_line.ensures.bound);
      number = omega (arith, c.lines.invariant.number, c.first_line.ensures.bound);
    }

pub returns-then-is_empty-clause-found : goal.returns-then-is_empty-clause-found
returns-then-is_empty-clause-found c =
    let none : length c.lines.rest.now ≡ 0 = search rules in
    told_all c.args.most c.lines.found.items _ _ c.lines.invariant.few c.lines.invariant.told (plan-end c.lines.roster c.lines.byte (c.lines.number + 1) c.lines.rest.now none)
