use Rattle.std.proofs.Common.{rules, arith, ℕ, List, [], ◌∷◌, ◌++◌, ◌≡◌, ◌∙◌, ◌+◌, ◌<◌, take, drop, length, get_or, ap, sym, refl, drop-cons, add-one}
use Rattle.std.specs.Prelude.{slice_set, suc}
use Rattle.report_tests.proofs.slow.DripSource.read.Goals as goal

first_set : (xs : List ℕ) (v : ℕ) → 0 < length xs → take 1 (slice_set xs 0 v) ≡ v ∷ []
first_set [] v h = absurd (omega arith)
first_set (x ∷ xs) v h = refl

next : (xs : List ℕ) (i v : ℕ) → i < length xs → v ≡ get_or xs i v → drop i xs ≡ v ∷ drop (i + 1) xs
next xs i v h e = rw add-one (drop-cons xs i v h ∙ ap (λ x. x ∷ drop (suc i) xs) (sym e))

pub returns-clause-bytes : goal.returns-clause-bytes
returns-clause-bytes c =
    let buffer : 0 < length c.args.buf.now = search rules in
    let there : c.args.self.now.at < length c.args.self.now.bytes.items = search rules in
    let step : drop c.args.self.now.at c.args.self.now.bytes.items ≡ c.index.result.now ∷ drop (c.args.self.now.at + 1) c.args.self.now.bytes.items
    = next c.args.self.now.bytes.items c.args.self.now.at c.index.result.now there c.index.ensures in
    (step ∙ ap (λ front. front ++ drop (c.args.self.now.at + 1) c.args.self.now.bytes.items) (sym (first_set c.args.buf.now c.index.result.now buffer)), λ no. cc no)
