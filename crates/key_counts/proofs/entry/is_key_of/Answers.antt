use Rattle.std.proofs.Common.{rules, ◌∙◌, ◌<◌, length, sym}
use Rattle.std.proofs.lemmas.Slice.Eq.{bytes_eq-Decides}
use Rattle.key_counts.proofs.Stored.{key-stored}
use Rattle.key_counts.proofs.entry.is_key_of.Goals as goal

pub returns-in-Some : goal.returns-in-Some
returns-in-Some c =
    let found = c.in-Some.ensures in
    let lt : c.args.code < length c.args.entries.now = search rules in
    λ is. (lt, key-stored c.args.entries.now c.args.code c.in-Some.entry.now lt found.lookup.1 ∙ sym c.as_slice.ensures ∙ (bytes_eq-Decides c.as_slice.result.now c.args.key.now).0 (sym c.eq.ensures ∙ is))
