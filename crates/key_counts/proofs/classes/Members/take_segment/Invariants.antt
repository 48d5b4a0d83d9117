use Rattle.std.proofs.Common.{◌≡◌, ◌≤◌, ◌+◌, ◌-◌, ℕ, List, length}
use Rattle.key_index.specs.Keys.{Key}
use Rattle.key_counts.specs.Private.Classes.{AreMembers}
use Rattle.key_counts.specs.Private.Twins.{class_in}
use Rattle.key_counts.specs.Private.Walks.{AreNext, is_of}
use Rattle.key_counts.proofs.classes.Members.take_segment.Given as goal

abbrev pub invariant-loop-code : goal.invariant-loop-code
invariant-loop-code l = record {
  within : l.fn.segment.from ≤ l.code;
  starts : l.self.starts ≡ l.fn.self.starts;
  members : (all : List Key) (counts : List ℕ) (k : ℕ) → length counts ≡ length all → AreNext l.skip l.entries l.fn.segment all counts k
      → AreMembers (is_of (class_in l.fn.twins) l.class) all counts k l.fn.self
      → AreMembers (is_of (class_in l.fn.twins) l.class) all counts (k + (l.code - l.fn.segment.from)) l.self;
}
