use Rattle.std.proofs.Common.{◌++◌, ℕ, List}
use Rattle.report_rows.specs.Private.Slices.{committed_between}
use Rattle.report_rows.specs.Rows.{HasText}
use Rattle.report_rows.proofs.committed_rows.write_between.Given as goal

abbrev pub invariant-loop-id : goal.invariant-loop-id
invariant-loop-id l =
    (text : List ℕ) → HasText l.fn.writer text → HasText l.writer (text ++ committed_between l.keys l.counts l.from l.id)
