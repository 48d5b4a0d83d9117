use Rattle.std.proofs.Common.{◌∙◌, ap, not}
use Rattle.bit_planes.proofs.Pairs.{and_not_bits, some_marked}
use Rattle.bit_planes.proofs.bits.is_within.Goals as goal

pub returns : goal.returns
returns c = c.is_within.ensures ∙ ap not (some_marked _ _ and_not_bits c.args.a.now c.args.b.now (record { same = c.requires; mine = λ i. (c.type_inv.a i).fits; theirs = λ i. (c.type_inv.b i).fits }))
