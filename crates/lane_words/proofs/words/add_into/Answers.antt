use Rattle.std.proofs.Common.{◌+◌, ◌≤◌, length, ap, arith}
use Rattle.std.proofs.lemmas.Simd.{length-put_chunk}
use Rattle.lane_words.proofs.Kernels.{length_done, rest_put, rest_fits, sums_more}
use Rattle.lane_words.proofs.words.add_into.Goals as goal

pub loop-at-preserved : goal.loop-at-preserved
loop-at-preserved c =
    let e = c.loop-at.invariant.so_far in
    let long = length_done (λ x y. x + y) c.loop-at.at c.args.a.now c.args.b.now c.requires.len in
    record {
      within = rw length-put_chunk (omega arith);
      so_far = rw e (sums_more 8 c.loop-at.at c.args.a.now c.args.b.now c.requires.len (omega (arith, long, ap length e)) c.requires.sums);
    }

pub add_into-requires-clause-sums : goal.add_into-requires-clause-sums
add_into-requires-clause-sums c =
    let long = length_done (λ x y. x + y) c.loop-at.at c.args.a.now c.args.b.now c.requires.len in
    let within : c.loop-at.at ≤ length c.args.a.now = omega (arith, long, ap length c.loop-at.invariant.so_far, c.loop-at.invariant.within) in
    rw c.loop-at.invariant.so_far (rest_fits _ _ c.loop-at.at c.args.a.now c.args.b.now c.requires.len within c.requires.sums)

pub returns : goal.returns
returns c =
    let long = length_done (λ x y. x + y) c.loop-at.at c.args.a.now c.args.b.now c.requires.len in
    rest_put (λ x y. x + y) c.loop-at.at c.loop-at.a c.args.a.now c.args.b.now c.add_into.new.a c.requires.len (omega (arith, c.loop-at.auto.a)) c.loop-at.invariant.so_far c.add_into.ensures
