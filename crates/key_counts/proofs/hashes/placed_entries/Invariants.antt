use Rattle.key_counts.specs.Private.Hashes.{ArePlacedTo}
use Rattle.key_counts.proofs.hashes.placed_entries.Given as goal

abbrev pub invariant-loop-code : goal.invariant-loop-code
invariant-loop-code l = ArePlacedTo l.place l.skip l.entries l.code l.lists.items
