use Rattle.std.proofs.Common.{◌≡◌, ℕ, take}
use Rattle.std.specs.Prelude.{All}
use Rattle.key_counts.specs.Private.Twins.{AreWritten, class_at}
use Rattle.key_counts.proofs.twins.write_classes.Given as goal

abbrev pub invariant-loop-i : goal.invariant-loop-i
invariant-loop-i l = (right : ℕ → ℕ) → All (λ e. class_at l.class l.fn.bytes e.cell ≡ right e.code) l.list
    → AreWritten right (take l.i l.list) l.fn.classes l.classes
