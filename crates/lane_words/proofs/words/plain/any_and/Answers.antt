use Rattle.std.proofs.Common.{◌∙◌, bit_and}
use Rattle.lane_words.proofs.Kernels.{set_one, set_all}
use Rattle.lane_words.proofs.words.plain.any_and.Goals as goal

pub loop-i-preserved : goal.loop-i-preserved
loop-i-preserved c = set_one bit_and c.loop-i.i c.loop-i.found c.args.a.now c.args.b.now c.requires c.loop-i-test.true c.loop-i.invariant

pub returns : goal.returns
returns c = c.loop-i.invariant ∙ set_all bit_and c.loop-i.i c.args.a.now c.args.b.now c.requires c.loop-i-test.false
