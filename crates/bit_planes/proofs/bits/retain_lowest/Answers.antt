use Rattle.std.proofs.Common.{refl, arith}
use Rattle.bit_planes.proofs.Walked.{retained_none, retained_counted, retained_zero, retained_all}
use Rattle.bit_planes.proofs.bits.retain_lowest.Goals as goal
use Rattle.bit_planes.proofs.bits.retain_lowest.Goals.{then-words-i-ne0, else-words-i-ne0}

pub loop-i-init : goal.loop-i-init
loop-i-init c = retained_none c.args.words.now c.args.n

pub loop-i-preserved : goal.loop-i-preserved
loop-i-preserved c =
    elim c.if-words-i-ne0.branch [
      | then-words-i-ne0 w ↦ rw (w.words-is) (retained_counted c.args.words.now c.args.n c.loop-i.i c.loop-i.left c.loop-i.words _ w.lowest_bits-retained.result w.count_in.result _ (omega (arith, c.loop-i.auto.words)) refl w.count_in.ensures (omega (arith, w.left-is, w.saturating_sub-left.ensures)) w.lowest_bits-retained.ensures c.loop-i.invariant)
      | else-words-i-ne0 w ↦ rw (w.words-is, w.left-is) (retained_zero c.args.words.now c.args.n c.loop-i.i c.loop-i.left c.loop-i.words (omega (arith, w.if-words-i-ne0.false)) c.loop-i.invariant)
    ]

pub returns-clause-bits : goal.returns-clause-bits
returns-clause-bits c = retained_all c.args.words.now c.args.n c.loop-i.i c.loop-i.left c.loop-i.words (omega (arith, c.loop-i.auto.words)) c.loop-i.invariant
