use Rattle.std.proofs.Common.{◌≡◌}
use Rattle.trace_report.specs.Sets.{numbers_among, numbers_within}
use Rattle.trace_report.proofs.sets.has_within.Given as goal

abbrev pub invariant-loop-p : goal.invariant-loop-p
invariant-loop-p l = numbers_within l.set l.from l.to ≡ numbers_among l.from l.to l.p-iterator
