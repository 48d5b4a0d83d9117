use Rattle.std.proofs.Common.{◌∙◌, ap, not, sym, arith, bit_xor}
use Rattle.lane_words.proofs.Kernels.{set_more, lanes_more, lanes_found, lanes_none, is_set-pos, is_set-zero, none_set, equal_is, equal_by_bits, rests}
use Rattle.lane_words.proofs.words.equal64.Goals as goal

pub loop-at-preserved : goal.loop-at-preserved
loop-at-preserved c = record {
  within = omega arith;
  lanes = lanes_more bit_xor 8 c.loop-at.at c.loop-at.found c.args.a.now c.args.b.now c.requires (omega arith) c.loop-at.invariant.lanes;
  so_far = set_more bit_xor 8 c.loop-at.at c.loop-at.found c.args.a.now c.args.b.now c.requires (omega arith) c.loop-at.invariant.lanes c.loop-at.invariant.so_far;
}

pub returns-then-found-eq0 : goal.returns-then-found-eq0
returns-then-found-eq0 c =
    let bits_equal = equal_by_bits _ _ c.equal64.result (rests c.loop-at.at c.args.a.now c.args.b.now c.requires) c.equal64.ensures in
    equal_is c.args.a.now c.args.b.now _ c.requires (bits_equal ∙ ap not (lanes_none bit_xor c.loop-at.at c.loop-at.found c.args.a.now c.args.b.now c.requires c.loop-at.invariant.within c.loop-at.invariant.so_far (is_set-zero _ c.if-found-eq0.true)))

pub returns-else-found-eq0 : goal.returns-else-found-eq0
returns-else-found-eq0 c =
    let some = is_set-pos _ (let t = c.if-found-eq0.false in omega arith) in
    equal_is c.args.a.now c.args.b.now _ c.requires (none_set _ ∙ ap not (some ∙ sym (lanes_found bit_xor c.loop-at.at c.loop-at.found c.args.a.now c.args.b.now c.requires c.loop-at.invariant.within c.loop-at.invariant.so_far some)))
