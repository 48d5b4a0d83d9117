use Rattle.std.proofs.Common.{arith}
use Rattle.key_index.specs.Private.KeyHash.{sum_of}
use Rattle.key_index.proofs.Hashed.{sum-of-words}
use Rattle.key_index.proofs.key_hash.sum_of.Goals as goal

pub returns-clause-value : goal.returns-clause-value
unfolding sum_of
returns-clause-value c =
    rw (c.with_later.ensures, c.with_later-sum.ensures, c.with_both-sum.ensures, c.with_product-sum.ensures, c.from.ensures, c.len.ensures.value)
    (sum-of-words c.args.seeds.now c.args.key.now _ _ _ _ (omega arith) c.told-seeds c.words-first.ensures)
