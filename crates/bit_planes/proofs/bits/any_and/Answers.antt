use Rattle.std.proofs.Common.{◌∙◌}
use Rattle.bit_planes.proofs.Pairs.{and_bits, some_marked}
use Rattle.bit_planes.proofs.bits.any_and.Goals as goal

pub returns : goal.returns
returns c = c.any_and.ensures ∙ some_marked _ _ and_bits c.args.a.now c.args.b.now (record { same = c.requires; mine = λ i. (c.type_inv.a i).fits; theirs = λ i. (c.type_inv.b i).fits })
