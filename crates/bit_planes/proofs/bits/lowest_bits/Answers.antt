use Rattle.std.proofs.Common.{◌≡◌, subst, arith}
use Rattle.bit_planes.proofs.WordBits.{LacksLowestBits, lacks_none, lacks_next, lowest_taken, lowest_all_bits, lowest_no_bits}
use Rattle.bit_planes.proofs.bits.lowest_bits.Goals as goal

pub returns-then-n-eq0 : goal.returns-then-n-eq0
returns-then-n-eq0 c = lowest_no_bits c.args.word c.args.n (omega (arith, c.if-n-eq0.true))

pub returns-then-count_in-n : goal.returns-then-count_in-n
returns-then-count_in-n c = lowest_all_bits c.args.word c.args.n (omega (arith, c.count_in.ensures))

pub loop-init : goal.loop-init
loop-init c = lacks_none c.args.word

pub loop-preserved : goal.loop-preserved
loop-preserved c = lacks_next c.args.word c.loop.rest c.loop.counter c.loop.auto.rest-fits.fits c.loop.invariant

pub returns : goal.returns
returns c =
    let all : c.loop.counter ≡ c.args.n = omega arith in
    lowest_taken c.args.word c.loop.rest c.args.n c.loop.auto.rest-fits.fits (subst (λ n. LacksLowestBits n c.args.word c.loop.rest) all c.loop.invariant)
