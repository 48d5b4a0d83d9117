use Rattle.std.proofs.Common.{◌<◌, ◌∙◌, ◌∷◌, ◌++◌, [], Bor, ap, arith, append_assoc, length, sym}
use Rattle.std.specs.Prelude.{slice_range}
use Rattle.std.proofs.lemmas.List.{append-nil, map-append}
use Rattle.key_index.specs.Keys.{Key, key_at, lent}
use Rattle.key_counts.proofs.Parts.{slice-more, slice-none}
use Rattle.partition_log.proofs.tables.add_keys.Goals as goal

pub loop-code-init : goal.loop-code-init
loop-code-init c =
    let none = slice-none c.args.entries.now.keys c.args.segment.from in
    record {
      within = omega arith;
      keys = rw none (sym (append-nil (lent c.args.keys.now.items)));
    }

pub loop-code-preserved : goal.loop-code-preserved
loop-code-preserved c =
    let inv = c.loop-code.invariant in
    let keys = c.args.entries.now.keys in
    let from = c.args.segment.from in
    let code = c.loop-code.code in
    let now : Bor Key → Key = λ key. key.now in
    let in_keys : code < length keys = omega (arith, c.requires.within) in
    let before = lent c.args.keys.now.items in
    record {
      within = omega (arith, inv.within);
      keys = ap lent c.in_ok-push.ensures.items ∙ map-append now c.loop-code.keys.items (c.key.result ∷ [])
          ∙ ap (λ k. lent c.loop-code.keys.items ++ k ∷ []) c.key.ensures ∙ ap (λ ks. ks ++ key_at keys code ∷ []) inv.keys
          ∙ append_assoc before (slice_range keys from code) (key_at keys code ∷ [])
          ∙ ap (λ ks. before ++ ks) (sym (slice-more keys from code [] inv.within in_keys));
    }
