use Rattle.std.proofs.Common.{◌≡◌, ◌<◌, ◌∙◌, ◌∷◌, ◌++◌, [], append_assoc, arith, ap, ap₂, get_or, length, map, sym, take}
use Rattle.std.proofs.lemmas.Grind.{common_steps}
use Rattle.std.proofs.lemmas.List.{get_or_read, length-take, map_more}
use Rattle.std.proofs.lemmas.List.Sums.{fold_more}
use Rattle.key_index.specs.Keys.{id_of, with_key}
use Rattle.key_index.specs.Private.Sharded.{with_keys}
use Rattle.key_index.proofs.Scattered.{number-next}
use Rattle.key_index.proofs.ShardRecords.{few-added}
use Rattle.key_index.proofs.interning.intern_row.Goals as goal

pub intern_in-requires : goal.intern_in-requires
intern_in-requires c =
    let row = c.args.row.now in
    omega (arith, ap length c.loop-k.invariant.table, few-added c.args.table.now (take c.loop-k.k row), length-take c.loop-k.k row, c.loop-k-test.true, c.requires)

pub loop-k-preserved : goal.loop-k-preserved
loop-k-preserved c =
    let row = c.args.row.now in
    let old = c.args.table.now in
    let k = c.loop-k.k in
    let inv = c.loop-k.invariant in
    let k_in : k < length row = omega (arith, c.loop-k-test.true) in
    let key = get_or row k [] in
    let f = id_of (with_keys old row) in
    let read : c.index-row-k.result ≡ key = get_or_read row k c.index-row-k.result k_in c.index-row-k.is [] in
    let number : c.in_ok-number.number ≡ f key = c.in_ok-number.ensures.0 ∙ ap₂ id_of inv.table read ∙ sym (number-next old row k k_in) in
    let old_local_ids = c.args.local_ids.now.items in record {
      table = c.in_ok-number.ensures.1 ∙ ap₂ with_key inv.table read ∙ sym (fold_more with_key old row k [] k_in);
      local_ids = c.in_ok-push.ensures.items ∙ ap₂ (λ ns n. ns ++ n ∷ []) inv.local_ids number ∙ append_assoc old_local_ids (map f (take k row)) (f key ∷ []) ∙ ap (λ ns. old_local_ids ++ ns) (sym (map_more f row k [] k_in));
    }

pub returns-clause-table : goal.returns-clause-table
returns-clause-table c = grind (arith, common_steps)
