use Rattle.key_counts.specs.Private.Prepared.{AreStartsOf}
use Rattle.key_counts.proofs.merging.Prepared.bounds.Given as goal

abbrev pub invariant-loop-segment : goal.invariant-loop-segment
invariant-loop-segment l = AreStartsOf l.self l.segment l.bounds.items
