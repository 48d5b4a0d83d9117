use Rattle.std.proofs.Common.{◌≡◌, ◌∙◌, ◌+◌, ◌++◌, ◌<◌, false, length, ap, sym, arith, rules, subst, length-append}
use Rattle.key_index.specs.Keys.{IsIdOf, id_of, is_interned}
use Rattle.key_index.proofs.Firsts.{interned-append}
use Rattle.key_index.proofs.Concatenated.{behind}
use Rattle.key_index.proofs.keys.KeyDictionary.find.Goals as goal

pub returns-in-Some-clause-found : goal.returns-in-Some-clause-found
returns-in-Some-clause-found c =
    let first = c.self.inside.shards in
    let last = c.self.inside.table in
    let key = c.args.key.now in
    let there : IsIdOf first key c.in-Some.number = rw c.in-Some.is at c.in_ok-number.ensures.found in
    let stays = interned-append first last key there.2 in
    let within : c.in-Some.number < length (first ++ last) = omega (arith, there.1, length-append first last) in
    subst (λ ks. IsIdOf ks key c.in-Some.number) c.self.view_is (there.0 ∙ sym stays.1, within, stays.0)

pub returns-clause-found : goal.returns-clause-found
returns-clause-found c =
    let first = c.self.inside.shards in
    let last = c.self.inside.table in
    let key = c.args.key.now in
    let unknown : is_interned first key ≡ false = search rules in
    let there : IsIdOf last key c.in-Some-2.number = rw c.in-Some-2.is at c.in_ok-number-2.ensures.found in
    let after = behind first last key unknown in
    let number = c.count.result + c.in-Some-2.number in
    let same = ap length c.in_ok-number.ensures.same in
    let id : number ≡ id_of (first ++ last) key = omega (arith, c.count.ensures, same, there.0, after.1) in
    let within : number < length (first ++ last) = omega (arith, c.count.ensures, same, there.1, length-append first last) in
    subst (λ ks. IsIdOf ks key number) c.self.view_is (id, within, after.0 ∙ there.2)
