use Rattle.std.proofs.Common.{◌≡◌, ◌∙◌, ◌+◌, ◌++◌, false, length, ap, arith, length-append}
use Rattle.key_index.specs.Keys.{id_of, is_interned, with_key}
use Rattle.key_index.proofs.Growth.{fresh}
use Rattle.key_index.proofs.Concatenated.{added-behind, behind, new-in-both}
use Rattle.key_index.proofs.keys.KeyDictionary.add.Goals as goal

pub overflow_add-result : goal.overflow_add-result
overflow_add-result c =
    let first = c.self.inside.shards in
    let last = c.self.inside.table in
    let key = c.args.key.now in
    let new : is_interned (first ++ last) key ≡ false = ap (λ ks. is_interned ks key) c.self.view_is ∙ c.requires.absent in
    let next = fresh last key (new-in-both first last key new).1 in
    let long = ap length c.self.view_is in
    omega (arith, c.count.ensures, c.in_ok-number.ensures.ok.0, next, long, length-append first last, c.requires.capacity)

pub returns-clause-ok : goal.returns-clause-ok
returns-clause-ok c =
    let first = c.self.inside.shards in
    let last = c.self.inside.table in
    let key = c.args.key.now in
    let new : is_interned (first ++ last) key ≡ false = ap (λ ks. is_interned ks key) c.self.view_is ∙ c.requires.absent in
    let ok = c.in_ok-number.ensures.ok in
    let id = (behind first last key (new-in-both first last key new).0).1 in
    let sum : c.count.result + c.in_ok-number.number ≡ id_of (first ++ last) key = omega (arith, c.count.ensures, ok.0, id) in (
      sum ∙ ap (λ ks. id_of ks key) c.self.view_is,
      ap (λ ks. first ++ ks) ok.1 ∙ added-behind first last key new ∙ ap (λ ks. with_key ks key) c.self.view_is,
    )
