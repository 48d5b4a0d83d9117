use Rattle.std.proofs.Common.{◌∙◌, ap, codes, decimal}
use Rattle.lane_words.specs.declared.limits.TheConstants.{LONGEST_KEY}
use Rattle.check_report.proofs.Told.{joined}
use Rattle.check_report.proofs.record_findings.key_words.Goals as goal

pub returns : goal.returns
returns c =
    let text = c.in_ok-text.ensures.ok in
    joined c.into_bytes.result.items (codes "the key has ") (decimal c.args.bytes) (codes " bytes, ") (decimal LONGEST_KEY) (codes " are the most") (ap (λ v. v.items) c.into_bytes.ensures.value ∙ text)
