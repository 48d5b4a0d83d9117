use Rattle.std.proofs.Common.{◌≡◌, ◌<◌, ◌+◌, ◌++◌, ◌∙◌, [], Bor, Vec, Global, List, arith, rules, ap, drop, get_or, length, map, sym, take, vec_len}
use Rattle.std.proofs.lemmas.List.{get_or-map, length-map}
use Rattle.key_index.specs.Keys.{Key, id_of, lent, lent_lists}
use Rattle.key_index.specs.Private.Sharded.{of_shard, shard_of, with_keys}
use Rattle.key_index.proofs.Scattered.{lists-more, lists-parted, row-numbered, row-capacity}
use Rattle.key_index.proofs.ShardRecords.{numbered-none}
use Rattle.key_index.proofs.interning.intern_rows.Goals as goal

pub loop-i-init : goal.loop-i-init
loop-i-init c = rw (c.requires.table, c.requires.local_ids) (numbered-none (shard_of c.args.hasher) c.args.shard (lent_lists c.args.lists.now))

pub index-row-requires : goal.index-row-requires
index-row-requires c =
    let own = get_or c.args.scattered.now c.loop-i.i c.index-scattered-i.result in
    let e : Bor (List (Bor Key)) = record { ref_ptr = (0, 0); now = [] } in
    let keys_of : Vec Key Global → List Key = λ row. row.items in
    let scattered = c.requires.scattered.are c.loop-i.i c.index-scattered-i.result e (omega (arith, c.loop-i-test.true, c.requires.scattered.as_many)) in
    let counted : length own.rows.items ≡ vec_len own.rows = search rules in
    omega (arith, c.requires.shard, scattered.rows.each, length-map own.rows.items keys_of, counted)

pub intern_row-requires : goal.intern_row-requires
intern_row-requires c =
    let f = shard_of c.args.hasher in
    let lists = c.args.lists.now in
    let i = c.loop-i.i in
    let own = get_or c.args.scattered.now i c.index-scattered-i.result in
    let e : Bor (List (Bor Key)) = record { ref_ptr = (0, 0); now = [] } in
    let keys_of : Vec Key Global → List Key = λ row. row.items in
    let i_in : i < length lists = omega (arith, c.loop-i-test.true, c.requires.scattered.as_many) in
    let rows = (c.requires.scattered.are i c.index-scattered-i.result e i_in).rows in
    let lt : c.args.shard < length own.rows.items = omega (arith, c.requires.shard, rows.each, length-map own.rows.items keys_of) in
    let row : c.as_slice.result.now ≡ of_shard f c.args.shard (lent (get_or lists i e).now) =
    c.as_slice.ensures.value ∙ ap keys_of c.index-row.ensures ∙ sym (get_or-map keys_of own.rows.items c.args.shard c.index-row.result.now [] lt) ∙ rows.are c.args.shard c.requires.shard in
    let capacity = row-capacity f c.args.shard (lent_lists lists) (lent_lists (take i lists)) (lent (get_or lists i e).now) (lent_lists (drop (i + 1) lists)) c.loop-i.interned.table c.loop-i.interned.local_ids.items (lists-parted lists i e i_in) c.loop-i.invariant in
    omega (arith, capacity, ap length row, c.requires.bound)

pub loop-i-preserved : goal.loop-i-preserved
loop-i-preserved c =
    let f = shard_of c.args.hasher in
    let lists = c.args.lists.now in
    let i = c.loop-i.i in
    let table = c.loop-i.interned.table in
    let local_ids = c.loop-i.interned.local_ids.items in
    let own = get_or c.args.scattered.now i c.index-scattered-i.result in
    let e : Bor (List (Bor Key)) = record { ref_ptr = (0, 0); now = [] } in
    let keys_of : Vec Key Global → List Key = λ row. row.items in
    let i_in : i < length lists = omega (arith, c.loop-i-test.true, c.requires.scattered.as_many) in
    let rows = (c.requires.scattered.are i c.index-scattered-i.result e i_in).rows in
    let lt : c.args.shard < length own.rows.items = omega (arith, c.requires.shard, rows.each, length-map own.rows.items keys_of) in
    let row : c.as_slice.result.now ≡ of_shard f c.args.shard (lent (get_or lists i e).now) =
    c.as_slice.ensures.value ∙ ap keys_of c.index-row.ensures ∙ sym (get_or-map keys_of own.rows.items c.args.shard c.index-row.result.now [] lt) ∙ rows.are c.args.shard c.requires.shard in
    let next = row-numbered f c.args.shard (lent_lists lists) (lent_lists (take i lists)) (lent (get_or lists i e).now) (lent_lists (drop (i + 1) lists)) table local_ids (lists-parted lists i e i_in) c.loop-i.invariant in
    rw (c.in_ok-intern_row.ensures.table ∙ ap (with_keys table) row, c.in_ok-intern_row.ensures.local_ids ∙ ap (λ ks. local_ids ++ map (id_of (with_keys table ks)) ks) row, lists-more lists i e i_in) next
