use Rattle.bit_planes.proofs.Words.{test_is}
use Rattle.bit_planes.proofs.bits.is_set.Goals as goal

pub returns : goal.returns
returns c = test_is c.args.words.now c.args.q
