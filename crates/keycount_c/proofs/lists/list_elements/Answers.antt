use Rattle.std.proofs.Common.{◌∙◌, arith, refl, sym}
use Rattle.keycount_c.proofs.Filling.{length_elements}
use Rattle.keycount_c.proofs.lists.list_elements.Goals as goal

pub returns-then-out-count : goal.returns-then-out-count
returns-then-out-count c =
    let n = c.count.ensures.value ∙ sym (length_elements c.args.set.now) in
    record {
      count = n;
      fits = λ le. absurd (omega (arith, n, le, c.if-out-count.true));
      short = λ lt. (refl, refl);
    }

pub put_elements-requires : goal.put_elements-requires
put_elements-requires c = let n = c.count.ensures.value ∙ sym (length_elements c.args.set.now) in omega (arith, n, c.if-out-count.false)

pub returns : goal.returns
returns c =
    let n = c.count.ensures.value ∙ sym (length_elements c.args.set.now) in
    record {
      count = n;
      fits = λ le. (refl, c.put_elements.ensures.out);
      short = λ lt. absurd (omega (arith, n, lt, c.if-out-count.false));
    }
