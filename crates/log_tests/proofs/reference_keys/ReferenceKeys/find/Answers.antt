use Rattle.std.proofs.Common.{◌≡◌, ◌∙◌, true, false, vec_items, sym, ap, rules}
use Rattle.std.specs.List.{list_any}
use Rattle.std.specs.Str.{bytes_eq}
use Rattle.std.proofs.lemmas.List.{length-map}
use Rattle.key_index.specs.Keys.{is_interned, id_of}
use Rattle.key_index.proofs.Numbers.{list_any-map, position-is, position_or_len-map}
use Rattle.log_tests.proofs.reference_keys.ReferenceKeys.find.Goals as goal

pub returns-in_default-clause-absent : goal.returns-in_default-clause-absent
returns-in_default-clause-absent c =
    let key = c.args.key.now in
    let missing : list_any (λ k. bytes_eq key (vec_items k)) c.self.inside.set.keys ≡ false = search rules in
    ap (λ keys. is_interned keys key) (sym c.self.view_is) ∙ list_any-map (bytes_eq key) vec_items c.self.inside.set.keys ∙ missing

pub returns-clause-found : goal.returns-clause-found
returns-clause-found c =
    let key = c.args.key.now in
    let keys = c.self.inside.set.keys in
    let there : list_any (λ k. bytes_eq key (vec_items k)) keys ≡ true = search rules in (
      position-is _ keys c.in-Some.number c.in-Some.ensures.index ∙ sym (position_or_len-map (bytes_eq key) vec_items keys) ∙ ap (λ ks. id_of ks key) c.self.view_is,
      rw (← c.self.view_is, length-map keys vec_items) c.in-Some.ensures.within,
      ap (λ ks. is_interned ks key) (sym c.self.view_is) ∙ list_any-map (bytes_eq key) vec_items keys ∙ there,
    )
