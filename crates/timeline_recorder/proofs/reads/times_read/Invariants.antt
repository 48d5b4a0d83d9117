use Rattle.std.proofs.Common.{◌≡◌, [], take}
use Rattle.std.specs.Prelude.{fold}
use Rattle.timeline_recorder.specs.Reads.{with_mark}
use Rattle.timeline_recorder.proofs.reads.times_read.Given as goal

abbrev pub invariant-loop-column : goal.invariant-loop-column
invariant-loop-column l = l.times.items ≡ fold (λ times column. with_mark l.partition times column.mark) [] (take l.column-index l.columns)
