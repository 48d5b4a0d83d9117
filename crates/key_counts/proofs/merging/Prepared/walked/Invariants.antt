use Rattle.key_counts.specs.Private.Prepared.{all_counts, all_keys, entries_before}
use Rattle.key_counts.specs.Private.Twins.{class_in}
use Rattle.key_counts.specs.Private.Walks.{IsWalked}
use Rattle.key_counts.proofs.merging.Prepared.walked.Given as goal

abbrev pub invariant-loop-i : goal.invariant-loop-i
invariant-loop-i l = IsWalked (class_in l.self.twins) (all_keys l.self) (all_counts l.self) (entries_before l.self l.fn.start.segment) (entries_before l.self l.i) l.walk
