use Rattle.std.proofs.Common.{◌∙◌, not, ap, bit_xor}
use Rattle.lane_words.proofs.Kernels.{set_one, set_all, none_set, equal_is}
use Rattle.lane_words.proofs.words.plain.equal64.Goals as goal

pub loop-i-preserved : goal.loop-i-preserved
loop-i-preserved c = set_one bit_xor c.loop-i.i c.loop-i.found c.args.a.now c.args.b.now c.requires c.loop-i-test.true c.loop-i.invariant

pub returns : goal.returns
returns c = equal_is c.args.a.now c.args.b.now _ c.requires (none_set c.loop-i.found ∙ ap not (c.loop-i.invariant ∙ set_all bit_xor c.loop-i.i c.args.a.now c.args.b.now c.requires c.loop-i-test.false))
