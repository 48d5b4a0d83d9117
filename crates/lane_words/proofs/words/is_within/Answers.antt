use Rattle.std.proofs.Common.{◌∙◌, ap, not, sym, arith}
use Rattle.lane_words.specs.Words.{and_not}
use Rattle.lane_words.proofs.Kernels.{set_more, lanes_more, lanes_found, lanes_none, is_set-pos, is_set-zero, none_set, zip2_not}
use Rattle.lane_words.proofs.words.is_within.Goals as goal

pub loop-at-preserved : goal.loop-at-preserved
loop-at-preserved c = record {
  within = omega arith;
  lanes = rw zip2_not (lanes_more and_not 8 c.loop-at.at c.loop-at.found c.args.a.now c.args.b.now c.requires (omega arith) c.loop-at.invariant.lanes);
  so_far = rw zip2_not (set_more and_not 8 c.loop-at.at c.loop-at.found c.args.a.now c.args.b.now c.requires (omega arith) c.loop-at.invariant.lanes c.loop-at.invariant.so_far);
}

pub returns-then-found-eq0 : goal.returns-then-found-eq0
returns-then-found-eq0 c = c.is_within.ensures ∙ ap not (lanes_none and_not c.loop-at.at c.loop-at.found c.args.a.now c.args.b.now c.requires c.loop-at.invariant.within c.loop-at.invariant.so_far (is_set-zero _ c.if-found-eq0.true))

pub returns-else-found-eq0 : goal.returns-else-found-eq0
returns-else-found-eq0 c =
    let some = is_set-pos _ (let t = c.if-found-eq0.false in omega arith) in
    none_set _ ∙ ap not (some ∙ sym (lanes_found and_not c.loop-at.at c.loop-at.found c.args.a.now c.args.b.now c.requires c.loop-at.invariant.within c.loop-at.invariant.so_far some))
