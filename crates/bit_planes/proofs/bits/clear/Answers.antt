use Rattle.bit_planes.proofs.Words.{clear_one}
use Rattle.bit_planes.proofs.bits.clear.Goals as goal

pub returns-clause-bits : goal.returns-clause-bits
returns-clause-bits c = λ n. clear_one c.args.words.now c.args.q n c.requires
