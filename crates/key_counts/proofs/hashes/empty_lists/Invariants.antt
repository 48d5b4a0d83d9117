use Rattle.std.proofs.Common.{◌≡◌, ℕ, [], length}
use Rattle.key_counts.specs.Private.Results.{list_of}
use Rattle.key_counts.proofs.hashes.empty_lists.Given as goal

abbrev pub invariant-loop-part : goal.invariant-loop-part
invariant-loop-part l = record {
  len : length l.lists.items ≡ l._part;
  none : (part : ℕ) → list_of l.lists.items part ≡ [];
}
