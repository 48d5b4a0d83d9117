use borrow.Author.Count.{below_more}
use Rattle.std.proofs.Common.{◌∙◌, ◌+◌, ◌<◌, ℕ, length, get_or, set, arith, subst, sym}
use Rattle.std.proofs.lemmas.List.{get_or-set_same, get_or-set_other, get_or_default}
use Rattle.std.specs.Fork.{ChangesAt}
use Rattle.parallel.proofs.each.call_each.Goals as goal

pub loop-k-preserved : goal.loop-k-preserved
loop-k-preserved g c =
    let k = c.loop-k.k in let xs = c.args.items.now in let ys = c.loop-k.items in let y = c.call_one.new.item in
    let R : ℕ → g.row.T.Denot → g.row.T.Denot → Type 0 = λ j. ChangesAt g.F.Fn c.args.f.now (c.args.from + j) in
    let l : k < length ys = omega arith in (
      λ j d h. get_or-set_other ys k j y d (λ e. omega arith) ∙ c.loop-k.invariant.0 j d (omega arith),
      λ j d h. below_more (λ i. R i (get_or xs i d) (get_or (set ys k y) i d)) k
          (λ i u. subst (R i (get_or xs i d)) (sym (get_or-set_other ys k i y d (λ e. omega arith))) (c.loop-k.invariant.1 i d u))
          (subst (R k (get_or xs k d)) (sym (get_or-set_same ys k y d l))
          (subst (λ x. R k x y) (get_or_default ys k _ d l ∙ c.loop-k.invariant.0 k d (omega arith)) c.call_one.ensures))
          j h,
    )
