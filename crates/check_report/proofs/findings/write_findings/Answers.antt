use Rattle.std.proofs.Common.{◌∙◌, ◌++◌, ℕ, List, ap, append_assoc, subst, sym, take}
use Rattle.std.specs.Prelude.{flat_map}
use Rattle.std.proofs.lemmas.List.{take_all}
use Rattle.report_rows.specs.Rows.{HasText}
use Rattle.check_report.specs.Findings.{finding_row}
use Rattle.check_report.proofs.Told.{rows_more}
use Rattle.check_report.proofs.findings.write_findings.Goals as goal

pub loop-i-preserved : goal.loop-i-preserved
loop-i-preserved c text begun =
    let findings = c.args.findings.now in
    let finding = c.index-findings-i.result in
    let step = c.in_ok-write_finding.ensures _ (c.loop-i.invariant text begun) in
    let more = rows_more finding_row findings c.loop-i.i finding c.loop-i-test.true ∙ ap (λ f. flat_map finding_row (take c.loop-i.i findings) ++ finding_row f) (sym c.index-findings-i.is) in
    subst (λ (rows : List ℕ). HasText c.write_finding.new.writer rows)
    (append_assoc text (flat_map finding_row (take c.loop-i.i findings)) (finding_row finding) ∙ ap (λ rows. text ++ rows) (sym more)) step

pub returns : goal.returns
returns c text begun =
    let all = take_all c.loop-i.i c.args.findings.now c.loop-i-test.false in
    subst (λ (rows : List ℕ). HasText c.loop-i.writer rows) (ap (λ fs. text ++ flat_map finding_row fs) all) (c.loop-i.invariant text begun)
