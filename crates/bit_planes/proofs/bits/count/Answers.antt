use Rattle.std.proofs.Common.{◌∙◌, arith, length, ◌*◌}
use Rattle.bit_planes.specs.Private.Bits.{bit_of}
use Rattle.bit_planes.proofs.Sets.{how_many-le}
use Rattle.bit_planes.proofs.Walked.{marks_counted_all}
use Rattle.bit_planes.proofs.bits.count.Goals as goal

pub overflow_cast-result : goal.overflow_cast-result
overflow_cast-result c =
    let words = c.args.words.now in
    let e = c.count_ones.ensures ∙ marks_counted_all words (λ i. (c.type_inv.words i).fits) in
    let most = how_many-le (64 * length words) (bit_of words) in
    record { fits = omega (arith, e, most) }

pub returns : goal.returns
returns c = c.count_ones.ensures ∙ marks_counted_all c.args.words.now (λ i. (c.type_inv.words i).fits)
