use Rattle.std.proofs.Common.{◌∙◌, not, ap}
use Rattle.lane_words.specs.Words.{and_not}
use Rattle.lane_words.proofs.Kernels.{set_one, set_all, none_set}
use Rattle.lane_words.proofs.words.plain.is_within.Goals as goal

pub loop-i-preserved : goal.loop-i-preserved
loop-i-preserved c = set_one and_not c.loop-i.i c.loop-i.found c.args.a.now c.args.b.now c.requires c.loop-i-test.true c.loop-i.invariant

pub returns : goal.returns
returns c = none_set c.loop-i.found ∙ ap not (c.loop-i.invariant ∙ set_all and_not c.loop-i.i c.args.a.now c.args.b.now c.requires c.loop-i-test.false)
