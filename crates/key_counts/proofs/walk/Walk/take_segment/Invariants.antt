use Rattle.std.proofs.Common.{◌≤◌, ◌+◌, ◌-◌, ℕ, List}
use Rattle.key_index.specs.Keys.{Key}
use Rattle.key_counts.specs.Private.Twins.{class_in}
use Rattle.key_counts.specs.Private.Walks.{AreClasses, AreNext, IsWalked}
use Rattle.key_counts.proofs.walk.Walk.take_segment.Given as goal

abbrev pub invariant-loop-code : goal.invariant-loop-code
invariant-loop-code l = record {
  within : l.fn.segment.from ≤ l.code;
  walked : (all : List Key) (counts : List ℕ) (from k : ℕ) → AreClasses (class_in l.fn.twins) all counts l.classes
      → AreNext l.skip l.entries l.fn.segment all counts k
      → IsWalked (class_in l.fn.twins) all counts from k l.fn.self
      → IsWalked (class_in l.fn.twins) all counts from (k + (l.code - l.fn.segment.from)) l.self;
}
