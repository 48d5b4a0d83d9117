use Rattle.bit_planes.proofs.WordBits.{bits_below_are, bits_below_all}
use Rattle.bit_planes.proofs.bits.bits_below.Goals as goal

pub returns-then-n-lt-WORD_BITS : goal.returns-then-n-lt-WORD_BITS
returns-then-n-lt-WORD_BITS c = bits_below_are c.args.n c.if-n-lt-WORD_BITS.true

pub returns-else-n-lt-WORD_BITS : goal.returns-else-n-lt-WORD_BITS
returns-else-n-lt-WORD_BITS c = bits_below_all c.args.n c.if-n-lt-WORD_BITS.false
