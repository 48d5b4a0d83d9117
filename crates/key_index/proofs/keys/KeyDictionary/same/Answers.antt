use Rattle.std.proofs.Common.{[], ◌≡◌, ◌∙◌, ◌<◌, ◌-◌, ap, ap₂, arith, get_or, length, subst, sym}
use Rattle.std.specs.Prelude.{All}
use Rattle.std.specs.List.{range_with_len}
use Rattle.rayon.proofs.ToStd.{all-iff, nat_range-All}
use Rattle.key_index.specs.Keys.{key_at}
use Rattle.parallel.proofs.Copies.{same-by-index}
use Rattle.key_index.proofs.keys.KeyDictionary.same.Goals as goal

pub all-requires-clause-items : goal.all-requires-clause-items
all-requires-clause-items g c κs within =
    let ends = c.into_par_iter.ensures in
    rw (ends.0, ends.1) (nat_range-All (λ i. (i < length c.args.self.now) × (i < length c.args.other.now)) 0 c.count-then-count.result
    (λ i low high. (omega (arith, high, c.count-then-count.ensures), omega (arith, high, c.count-then-count.ensures, c.count.ensures, c.count-2.ensures, c.if-count.true))))

pub returns-then-count : goal.returns-then-count
returns-then-count g c =
    let ends = c.into_par_iter.ensures in
    let mine = c.args.self.now in
    let theirs = c.args.other.now in
    let n = c.count-then-count.result in
    let long_theirs : length theirs ≡ n = omega (arith, c.count-then-count.ensures, c.count.ensures, c.count-2.ensures, c.if-count.true) in
    let chain = c.all.ensures in
    let whole : n - 0 ≡ n = omega arith in
    let numbers : chain.0 ≡ range_with_len 0 n = chain.1 ∙ ap₂ (λ a b. range_with_len a (b - a)) ends.0 ends.1 ∙ ap (range_with_len 0) whole in
    let told = all-iff (λ i. key_at mine i ≡ key_at theirs i) chain.0 c.all.result chain.2 in (
      λ yes. same-by-index [] mine theirs n (sym c.count-then-count.ensures) long_theirs (subst (λ is. All (λ i. key_at mine i ≡ key_at theirs i) is) numbers (told.0 yes)),
      λ same. told.1 (λ k d lt. ap (λ ks. key_at ks (get_or chain.0 k d)) same),
    )
