use Rattle.bit_planes.proofs.Pairs.{equal_marks}
use Rattle.bit_planes.proofs.bits.are_equal.Goals as goal

pub returns : goal.returns
returns c = equal_marks c.args.a.now c.args.b.now c.equal64.result (record { same = c.requires; mine = λ i. (c.type_inv.a i).fits; theirs = λ i. (c.type_inv.b i).fits }) c.equal64.ensures
