use Rattle.std.proofs.Common.{◌≡◌, ◌+◌, ◌<◌, ℕ, drop, get_or, length}
use Rattle.key_counts.specs.Private.Totals.{added}
use Rattle.key_counts.proofs.classes.add_counts.Given as goal

abbrev pub invariant-loop-k : goal.invariant-loop-k
invariant-loop-k l =
    (id : ℕ) → id < length l.fn.totals
    → get_or l.totals id 0 + added (drop l.k l.ids) (drop l.k l.counts) id ≡ get_or l.fn.totals id 0 + added l.ids l.counts id
