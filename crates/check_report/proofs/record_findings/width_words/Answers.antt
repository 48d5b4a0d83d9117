use Rattle.std.proofs.Common.{◌∙◌, ap, codes, decimal}
use Rattle.check_report.specs.Findings.{fields_word}
use Rattle.check_report.proofs.Told.{joined}
use Rattle.check_report.proofs.record_findings.width_words.Goals as goal

pub returns : goal.returns
returns c =
    let text = rw c.fields_word-word.ensures at c.in_ok-text.ensures.ok in
    joined c.into_bytes.result.items (decimal c.args.fields) (codes " ") (fields_word c.args.fields) (codes ", the first record has ") (decimal c.args.width) (ap (λ v. v.items) c.into_bytes.ensures.value ∙ text)
