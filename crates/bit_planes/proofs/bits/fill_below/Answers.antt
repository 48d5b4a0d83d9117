use Rattle.std.proofs.Common.{◌≡◌, ◌-◌, ◌*◌, subst}
use Rattle.bit_planes.specs.Private.Bits.{HasBitsBelow}
use Rattle.bit_planes.proofs.Walked.{filled_more}
use Rattle.bit_planes.proofs.bits.fill_below.Goals as goal

pub loop-i-preserved : goal.loop-i-preserved
loop-i-preserved c =
    let left : c.saturating_sub.result ≡ c.args.n - c.loop-i.i * 64 = c.saturating_sub.ensures in
    filled_more c.args.n _ c.loop-i.i c.loop-i.words c.bits_below.result c.loop-i-test.true (subst (λ m. HasBitsBelow m c.bits_below.result) left c.bits_below.ensures) c.loop-i.invariant
