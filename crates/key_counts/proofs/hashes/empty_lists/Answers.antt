use Rattle.std.proofs.Common.{arith}
use Rattle.key_counts.specs.Private.Hashes.{placed_in}
use Rattle.key_counts.proofs.hashes.empty_lists.Goals as goal

pub returns : goal.returns
unfolding placed_in
returns c = λ place skip entries. record {
  len = omega arith;
  each = λ part lt. c.loop-part.invariant.none part;
}
