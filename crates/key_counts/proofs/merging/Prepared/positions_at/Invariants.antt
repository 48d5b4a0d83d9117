use Rattle.std.proofs.Common.{◌≡◌, ◌<◌, ℕ, get_or, length}
use Rattle.key_counts.specs.Private.Prepared.{all_keys, entries_before}
use Rattle.key_counts.specs.Private.Twins.{class_in}
use Rattle.key_counts.specs.Private.Walks.{IsAt, is_of}
use Rattle.key_counts.specs.declared.twins.TheConstants.{CLASSES}
use Rattle.key_counts.specs.declared.walk.Position.{Position}
use Rattle.key_counts.proofs.merging.Prepared.positions_at.Given as goal

abbrev pub invariant-loop-class : goal.invariant-loop-class
invariant-loop-class l = record {
  count : length l.positions ≡ CLASSES;
  each : (c : ℕ) (d : Position) → c < l.class → IsAt (is_of (class_in l.self.twins) c) (all_keys l.self) (entries_before l.self l.segment) (get_or l.positions c d);
}
