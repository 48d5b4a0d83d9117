use Rattle.std.proofs.Common.{◌∙◌, ap, sym, take}
use Rattle.std.proofs.lemmas.Result.{IfOk-weaker}
use Rattle.check_report.proofs.Files.{file-findings}
use Rattle.check_report.proofs.record_findings.findings_of_file.Goals as goal

pub returns-in-Some : goal.returns-in-Some
returns-in-Some c =
    let taken = rw c.in-Some.is at c.in_ok-first.ensures in
    IfOk-weaker c.findings_behind.result _ _
    (λ found is. is ∙ ap (take c.args.most) (file-findings c.args.options.now c.args.file.now c.in-Some.first _ _ (sym c.of-records.ensures.left ∙ taken.1)))
    c.findings_behind.ensures
