use Rattle.std.proofs.Common.{arith, bit_or}
use Rattle.std.proofs.lemmas.Simd.{length-put_chunk}
use Rattle.lane_words.proofs.Kernels.{words_more, length_done, rest_put}
use Rattle.lane_words.proofs.words.or_into.Goals as goal

pub loop-at-preserved : goal.loop-at-preserved
loop-at-preserved c =
    let e = c.loop-at.invariant.so_far in
    let long = length_done bit_or c.loop-at.at c.args.a.now c.args.b.now c.requires in
    record {
      within = rw length-put_chunk (omega arith);
      so_far = rw e (words_more bit_or 8 c.loop-at.at c.args.a.now c.args.b.now c.requires (omega (arith, long)));
    }

pub returns : goal.returns
returns c =
    let long = length_done bit_or c.loop-at.at c.args.a.now c.args.b.now c.requires in
    rest_put bit_or c.loop-at.at c.loop-at.a c.args.a.now c.args.b.now c.or_into.new.a c.requires (omega (arith, c.loop-at.auto.a)) c.loop-at.invariant.so_far c.or_into.ensures
