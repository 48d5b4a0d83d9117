use Rattle.std.proofs.Common.{◌≡◌, ◌++◌}
use Rattle.trace_report.specs.Private.Runs.{run_texts}
use Rattle.trace_report.specs.Sets.{each_after, numbers_among, numbers_within, range_texts}
use Rattle.trace_report.specs.declared.texts.TheConstants.{SPACE}
use Rattle.trace_report.proofs.sets.push_within.Given as goal

abbrev pub invariant-loop-p : goal.invariant-loop-p
invariant-loop-p l = l.text.items ++ run_texts l.range (numbers_among l.from l.to l.p-iterator) ≡ l.fn.text.items ++ each_after SPACE (range_texts (numbers_within l.set l.from l.to))
