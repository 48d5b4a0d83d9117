use Rattle.std.proofs.Common.{◌≡◌, ◌∙◌, ◌<◌, ◌-◌, [], ap, ap₂, arith, get_or, length, map, subst, sym, vec_items}
use Rattle.std.specs.Prelude.{All}
use Rattle.std.specs.List.{range_with_len}
use Rattle.std.proofs.lemmas.List.{length-map}
use Rattle.rayon.proofs.ToStd.{all-iff, nat_range-All}
use Rattle.parallel.proofs.Copies.{same-by-index}
use Rattle.partition_log.proofs.same_logs.Goals as goal

pub all-requires-clause-items : goal.all-requires-clause-items
all-requires-clause-items g c κs within =
    let ends = c.into_par_iter.ensures in
    rw (ends.0, ends.1) (nat_range-All (λ i. (i < length c.args.logs.now) × (i < length c.args.others.now)) 0 (length c.args.logs.now) (λ i low high. (high, omega (arith, high, c.if-logs-others.true))))

pub returns-then-logs-others : goal.returns-then-logs-others
returns-then-logs-others g c =
    let ends = c.into_par_iter.ensures in
    let logs = c.args.logs.now in
    let mine = map vec_items logs in
    let theirs = map vec_items c.args.others.now in
    let n = length logs in
    let long : length mine ≡ n = length-map logs vec_items in
    let long_theirs : length theirs ≡ n = length-map c.args.others.now vec_items ∙ sym c.if-logs-others.true in
    let chain = c.all.ensures in
    let whole : n - 0 ≡ n = omega arith in
    let indices : chain.0 ≡ range_with_len 0 n = chain.1 ∙ ap₂ (λ a b. range_with_len a (b - a)) ends.0 ends.1 ∙ ap (range_with_len 0) whole in
    let told = all-iff (λ i. get_or mine i [] ≡ get_or theirs i []) chain.0 c.all.result chain.2 in (
      λ yes. same-by-index [] mine theirs n long long_theirs (subst (λ is. All (λ i. get_or mine i [] ≡ get_or theirs i []) is) indices (told.0 yes)),
      λ same. told.1 (λ k d lt. ap (λ ls. get_or ls (get_or chain.0 k d) []) same),
    )
