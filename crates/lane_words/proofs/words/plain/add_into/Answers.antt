use Rattle.std.proofs.Common.{◌+◌}
use Rattle.lane_words.proofs.Kernels.{one_more}
use Rattle.lane_words.proofs.words.plain.add_into.Goals as goal

pub loop-i-preserved : goal.loop-i-preserved
loop-i-preserved c =
    let e = c.loop-i.invariant in
    rw e (one_more (λ x y. x + y) c.loop-i.i c.args.a.now c.args.b.now c.requires.len c.loop-i-test.true)
