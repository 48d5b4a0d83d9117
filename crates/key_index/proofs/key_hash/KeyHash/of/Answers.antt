use Rattle.std.proofs.Common.{◌∙◌, arith}
use Rattle.std.proofs.lemmas.List.{length-set}
use Rattle.key_index.specs.Private.KeyHash.{seed_of}
use Rattle.key_index.proofs.Hashed.{seed-more}
use Rattle.key_index.proofs.key_hash.KeyHash.of.Goals as goal

pub loop-i-preserved : goal.loop-i-preserved
loop-i-preserved c =
    let seeds = c.loop-i.seeds in
    let i = c.loop-i.i in
    let seed = c.hash_one.result in
    let so = c.loop-i.invariant in
    (length-set seeds i seed ∙ so.0, seed-more (seed_of c.args.hasher) seeds i seed (omega (arith, so.0, c.loop-i-test.true)) c.hash_one.ensures so.1)
