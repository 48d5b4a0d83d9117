use Rattle.std.proofs.Common.{◌∙◌, sym}
use Rattle.check_report.proofs.Starts.{starts-blank}
use Rattle.check_report.proofs.places.record_start.Goals as goal

pub loop-i-preserved : goal.loop-i-preserved
loop-i-preserved c = λ delimiter. c.loop-i.invariant delimiter ∙ starts-blank delimiter c.args.file.now c.loop-i.i c.loop-i-test.true (sym c.is_line_end.ensures ∙ c.if-not-is_line_end.false)
