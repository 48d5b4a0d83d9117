use Rattle.key_counts.specs.Private.Prepared.{HoldsFirst}
use Rattle.key_counts.proofs.merging.entries_before.Given as goal

abbrev pub invariant-loop-i : goal.invariant-loop-i
invariant-loop-i l = HoldsFirst l.segments l.i l.worker l.len
