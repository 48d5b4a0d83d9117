use Rattle.std.proofs.Common.{◌∙◌, [], ◌∷◌, ◌++◌, map, vec_items, sym, ap}
use Rattle.std.specs.Prelude.{if◌then◌else◌}
use Rattle.std.specs.List.{list_any}
use Rattle.std.specs.Str.{bytes_eq}
use Rattle.key_index.specs.Keys.{id_of, with_key}
use Rattle.key_index.proofs.Numbers.{added-map, list_any-map, position_or_len-map}
use Rattle.log_tests.proofs.reference_keys.ReferenceKeys.add.Goals as goal

pub returns-clause-ok : goal.returns-clause-ok
returns-clause-ok c =
    let keys = c.self.inside.set.keys in
    let copy = c.in_ok-copy.copy in (
      c.in_ok-number.ensures.index ∙ sym (position_or_len-map (bytes_eq copy.items) vec_items keys)
          ∙ ap (λ k. id_of (map vec_items keys) k) c.in_ok-copy.ensures.items ∙ ap (λ ks. id_of ks c.args.key.now) c.self.view_is,
      ap (map vec_items) c.in_ok-number.ensures.keys
          ∙ added-map vec_items (list_any (λ k. bytes_eq copy.items (vec_items k)) keys) keys copy
          ∙ ap (λ b. if b then map vec_items keys else map vec_items keys ++ copy.items ∷ []) (sym (list_any-map (bytes_eq copy.items) vec_items keys))
          ∙ ap (with_key (map vec_items keys)) c.in_ok-copy.ensures.items ∙ ap (λ ks. with_key ks c.args.key.now) c.self.view_is,
    )
