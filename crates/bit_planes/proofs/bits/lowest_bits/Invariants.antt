use Rattle.bit_planes.proofs.WordBits.{LacksLowestBits}
use Rattle.bit_planes.proofs.bits.lowest_bits.Given as goal

abbrev pub invariant-loop : goal.invariant-loop
invariant-loop l = LacksLowestBits l.counter l.fn.word l.rest
