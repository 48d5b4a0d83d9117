use Rattle.std.proofs.Common.{◌≡◌, ℕ, List, [], ◌∷◌, sym, refl, rules}
use Rattle.csv.specs.Writing.{row_text}
use Rattle.report_rows.specs.Rows.{row_writer}
use Rattle.check_report.specs.Findings.{Finding, finding_row, input_text, number_text}
use Rattle.check_report.proofs.findings.write_finding.Goals as goal

row-is : (f : Finding) (input code nth line byte words : List ℕ) → input_text f.in_script ≡ input → number_text f.code ≡ code → number_text f.nth ≡ nth → number_text f.line ≡ line → number_text f.byte ≡ byte → f.words ≡ words
    → finding_row f ≡ row_text row_writer (input ∷ code ∷ nth ∷ line ∷ byte ∷ words ∷ [])
unfolding finding_row
row-is f input code nth line byte words h i j k l m = rw (h, i, j, k, l, m) refl

pub returns : goal.returns
returns c =
    let code : number_text c.args.finding.now.code ≡ c.digits-code.result.now = search rules in
    let nth : number_text c.args.finding.now.nth ≡ c.digits-nth.result.now = search rules in
    let line : number_text c.args.finding.now.line ≡ c.digits-line.result.now = search rules in
    let byte : number_text c.args.finding.now.byte ≡ c.digits-byte.result.now = search rules in
    let words : c.args.finding.now.words ≡ c.as_slice-words.result.now = search rules in
    rw (row-is c.args.finding.now c.input_of-input.result.now _ _ _ _ _ (sym c.input_of-input.ensures) code nth line byte words) c.write_row.ensures
