use Rattle.bit_planes.proofs.WordBits.{ones_are}
use Rattle.bit_planes.proofs.bits.count_in.Goals as goal

pub returns : goal.returns
returns c = ones_are c.args.word c.ranges.word.fits
