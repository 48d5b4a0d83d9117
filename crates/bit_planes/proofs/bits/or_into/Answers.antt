use Rattle.std.proofs.Common.{◌∙◌, ap, length}
use Rattle.std.proofs.lemmas.Simd.{length-zip2}
use Rattle.bit_planes.specs.Private.Bits.{bit_of}
use Rattle.bit_planes.proofs.Pairs.{or_bits, marks_of_pairs}
use Rattle.bit_planes.proofs.bits.or_into.Goals as goal

pub returns-clause-bits : goal.returns-clause-bits
returns-clause-bits c = λ q. ap (λ ws. bit_of ws q) c.or_into.ensures ∙ marks_of_pairs _ _ or_bits c.args.a.now c.args.b.now c.requires (λ i. (c.type_inv.b i).fits) q

pub returns-clause-len : goal.returns-clause-len
returns-clause-len c = ap length c.or_into.ensures ∙ length-zip2 _ c.args.a.now c.args.b.now c.requires
