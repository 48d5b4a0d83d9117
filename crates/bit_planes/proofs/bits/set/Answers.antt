use Rattle.bit_planes.proofs.Words.{set_one}
use Rattle.bit_planes.proofs.bits.set.Goals as goal

pub returns-clause-bits : goal.returns-clause-bits
returns-clause-bits c = λ n. set_one c.args.words.now c.args.q n c.requires
