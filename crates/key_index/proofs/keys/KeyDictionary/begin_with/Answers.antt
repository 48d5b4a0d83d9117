use Rattle.std.proofs.Common.{◌∙◌, ◌++◌, arith, ap, length, length-append}
use Rattle.std.proofs.lemmas.List.{append-nil}
use Rattle.key_index.proofs.Concatenated.{none-behind}
use Rattle.key_index.proofs.keys.KeyDictionary.begin_with.Goals as goal

pub invariant_of-self : goal.invariant_of-self
invariant_of-self c =
    let whole = ap length (c.self.view_is ∙ c.requires.empty) in
    omega (arith, whole, length-append c.self.inside.shards c.self.inside.table, c.requires.bound)

pub returns : goal.returns
returns c =
    let none = none-behind c.self.inside.shards c.self.inside.table (c.self.view_is ∙ c.requires.empty) in
    ap (λ ks. c.args.shards ++ ks) none ∙ append-nil c.args.shards
