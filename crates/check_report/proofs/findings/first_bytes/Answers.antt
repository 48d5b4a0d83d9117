use Rattle.std.proofs.Common.{arith, length-take-le, sym}
use Rattle.std.proofs.lemmas.List.{take_all}
use Rattle.check_report.proofs.findings.first_bytes.Goals as goal

pub slice_bounds-result-end : goal.slice_bounds-result-end
slice_bounds-result-end c = sym (length-take-le 80 c.args.text.now (omega (arith, c.if-text-gt-MOST_SHOWN.true)))

pub returns-else-text-gt-MOST_SHOWN : goal.returns-else-text-gt-MOST_SHOWN
returns-else-text-gt-MOST_SHOWN c = sym (take_all 80 c.args.text.now (omega (arith, c.if-text-gt-MOST_SHOWN.false)))
