use Rattle.std.proofs.Common.{◌≡◌, ◌∙◌, ◌++◌, ap, rules, sym, true, false}
use Rattle.std.proofs.lemmas.List.{append-nil}
use Rattle.std.specs.Option.{option_to_list}
use Rattle.script.specs.Replay.{is_bad}
use Rattle.check_report.proofs.Lines.{finding-bad, finding-none}
use Rattle.check_report.proofs.script_findings.check_line.Goals as goal

pub returns-then-not-branch : goal.returns-then-not-branch
returns-then-not-branch c =
    let good : is_bad c.args.topics.now c.args.line.now.1.1 ≡ false = search rules in
    let found = c.args.found.now.items in
    sym (append-nil found) ∙ ap (λ o. found ++ option_to_list o) (sym (finding-none c.args.topics.now c.args.line.now good))

pub returns : goal.returns
returns c =
    let bad : is_bad c.args.topics.now c.args.line.now.1.1 ≡ true = search rules in
    let finding = finding-bad c.args.topics.now c.args.line.now bad in
    rw finding (search rules)
