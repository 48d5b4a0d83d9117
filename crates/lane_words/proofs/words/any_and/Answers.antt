use Rattle.std.proofs.Common.{◌∙◌, sym, arith, bit_and}
use Rattle.lane_words.proofs.Kernels.{set_more, lanes_more, lanes_found, lanes_none, is_set-pos, is_set-zero}
use Rattle.lane_words.proofs.words.any_and.Goals as goal

pub loop-at-preserved : goal.loop-at-preserved
loop-at-preserved c = record {
  within = omega arith;
  lanes = lanes_more bit_and 8 c.loop-at.at c.loop-at.found c.args.a.now c.args.b.now c.requires (omega arith) c.loop-at.invariant.lanes;
  so_far = set_more bit_and 8 c.loop-at.at c.loop-at.found c.args.a.now c.args.b.now c.requires (omega arith) c.loop-at.invariant.lanes c.loop-at.invariant.so_far;
}

pub returns-then-found-ne0 : goal.returns-then-found-ne0
returns-then-found-ne0 c =
    let some = is_set-pos _ (let t = c.if-found-ne0.true in omega arith) in
    some ∙ sym (lanes_found bit_and c.loop-at.at c.loop-at.found c.args.a.now c.args.b.now c.requires c.loop-at.invariant.within c.loop-at.invariant.so_far some)

pub returns-else-found-ne0 : goal.returns-else-found-ne0
returns-else-found-ne0 c = c.any_and.ensures ∙ lanes_none bit_and c.loop-at.at c.loop-at.found c.args.a.now c.args.b.now c.requires c.loop-at.invariant.within c.loop-at.invariant.so_far (is_set-zero _ c.if-found-ne0.false)
