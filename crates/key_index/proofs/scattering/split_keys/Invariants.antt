use Rattle.std.proofs.Common.{◌≡◌, take}
use Rattle.key_index.specs.Keys.{lent, lent_lists}
use Rattle.key_index.specs.Private.Sharded.{start_of}
use Rattle.key_index.proofs.scattering.split_keys.Given as goal

abbrev pub invariant-loop-p : goal.invariant-loop-p
invariant-loop-p l = lent_lists l.slices.items ≡ take (start_of l.p (lent l.keys)) (lent l.keys)
