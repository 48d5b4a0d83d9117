use Rattle.std.proofs.Common.{◌∙◌, ap, codes, decimal}
use Rattle.script.specs.declared.limits.TheConstants.{LONGEST_LINE}
use Rattle.check_report.proofs.Told.{joined}
use Rattle.check_report.proofs.script_findings.long_words.Goals as goal

pub returns : goal.returns
returns c =
    let text = c.in_ok-text.ensures.ok in
    joined c.into_bytes.result.items (codes "the line has ") (decimal c.args.bytes) (codes " bytes, ") (decimal LONGEST_LINE) (codes " are the most") (ap (λ v. v.items) c.into_bytes.ensures.value ∙ text)
