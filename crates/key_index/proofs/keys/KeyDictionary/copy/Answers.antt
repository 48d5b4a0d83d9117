use Rattle.std.proofs.Common.{◌∙◌, ◌++◌, ap, ap₂, arith, length, subst, sym}
use Rattle.key_index.specs.Keys.{IsWithoutRepeats}
use Rattle.key_index.proofs.Copied.{distinct-same, last-without}
use Rattle.key_index.proofs.keys.KeyDictionary.copy.Goals as goal

pub invariant_of-result : goal.invariant_of-result
invariant_of-result g c =
    let own = c.self.inside in
    let without_repeats = subst IsWithoutRepeats (sym c.self.view_is) c.requires in
    let table = c.in_ok-copy-2.ensures ∙ distinct-same own.table (last-without own.shards own.table without_repeats) in
    omega (arith, ap length c.in_ok-copy.ensures, ap length table, c.self.invariant)

pub returns : goal.returns
returns g c =
    let own = c.self.inside in
    let without_repeats = subst IsWithoutRepeats (sym c.self.view_is) c.requires in
    let table = c.in_ok-copy-2.ensures ∙ distinct-same own.table (last-without own.shards own.table without_repeats) in
    ap₂ (λ ks zs. ks ++ zs) c.in_ok-copy.ensures table ∙ c.self.view_is
