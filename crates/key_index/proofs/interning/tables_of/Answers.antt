use Rattle.std.proofs.Common.{◌≡◌, ◌+◌, ◌∙◌, ◌∷◌, ◌++◌, [], ℕ, arith, rules, ap, drop, length, length-append, map, subst, sym, vec_items}
use Rattle.std.specs.Vec.Iter.{into_iter_items}
use Rattle.std.proofs.lemmas.List.{map-append}
use Rattle.key_index.specs.Private.Sharded.{AreLocalIds, AreTables, IsInternedShard, shard_of}
use Rattle.key_index.specs.Keys.{lent_lists}
use Rattle.parallel.proofs.Iterated.{drop_last, drop_next}
use Rattle.key_index.proofs.Gathered.{local_ids-more, local_ids-none, tables-more, tables-none}
use Rattle.key_index.proofs.interning.tables_of.Goals as goal

pub loop-shard-init : goal.loop-shard-init
loop-shard-init c =
    let gives = c.into_iter-shard-iterator.ensures.into_iter_gives in
    let keys = lent_lists c.args.lists.now in record {
      within = omega (arith, ap length c.in_ok-tables.ensures.items);
      rest = rw c.in_ok-tables.ensures.items gives.0;
      len = search rules;
      tables = rw c.in_ok-tables.ensures.items (tables-none (shard_of c.args.hasher) keys);
      local_ids = rw (c.in_ok-tables.ensures.items, c.in_ok-local_ids.ensures.items) (local_ids-none (shard_of c.args.hasher) keys);
    }

pub loop-shard-preserved : goal.loop-shard-preserved
loop-shard-preserved c =
    let keys = lent_lists c.args.lists.now in
    let inv = c.loop-shard.invariant in
    let tables = c.loop-shard.tables.items in
    let local_ids = c.loop-shard.local_ids.items in
    let n = length tables in
    let steps = c.in-Some.ensures.steps in
    let next = drop_next c.args.shards.items (into_iter_items c.next.new.self) n c.in-Some.shard (sym inv.rest ∙ steps.0) in
    let long : length (tables ++ c.in-Some.shard.table ∷ []) ≡ n + 1 = length-append tables (c.in-Some.shard.table ∷ []) in
    let numbered : IsInternedShard (shard_of c.args.hasher) keys n c.in-Some.shard =
    rw next.1 at (c.requires.shards n c.in-Some.shard (omega (arith, next.0, c.requires.len))) in
    let grown = c.in_ok-push.ensures.items in
    let was = inv.len in
    let left = ap length steps.0 in
    let less = steps.1 in
    let seen : map vec_items c.push-in-loop-shard.new.self.items ≡ map vec_items local_ids ++ c.in-Some.shard.local_ids.items ∷ [] =
    ap (map vec_items) c.in_ok-push-2.ensures.items ∙ map-append vec_items local_ids (c.in-Some.shard.local_ids ∷ []) in
    record {
      within = rw grown (omega (arith, long, next.0));
      rest = rw grown (next.2 ∙ ap (λ m. drop m c.args.shards.items) (sym long));
      len = omega arith;
      tables = rw grown (tables-more (shard_of c.args.hasher) keys tables n c.in-Some.shard.table inv.tables numbered.0);
      local_ids = rw (grown, seen) (local_ids-more (shard_of c.args.hasher) keys (map vec_items local_ids) n (length (tables ++ c.in-Some.shard.table ∷ [])) c.in-Some.shard.local_ids.items long inv.local_ids numbered.1);
    }

pub returns-clause-tables : goal.returns-clause-tables
returns-clause-tables c =
    let inv = c.loop-shard.invariant in
    let shards = c.args.shards.items in
    let n = length c.loop-shard.tables.items in
    let none : length (drop n shards) ≡ 0 = ap length (sym inv.rest) ∙ sym inv.len ∙ c.in-None.ensures.steps.0 in
    let all : n ≡ length shards = drop_last shards n (omega (arith, inv.within)) none in
    subst (λ (m : ℕ). AreTables (shard_of c.args.hasher) m (lent_lists c.args.lists.now) c.loop-shard.tables.items) (all ∙ c.requires.len) inv.tables

pub returns-clause-local_ids : goal.returns-clause-local_ids
returns-clause-local_ids c =
    let inv = c.loop-shard.invariant in
    let shards = c.args.shards.items in
    let n = length c.loop-shard.tables.items in
    let none : length (drop n shards) ≡ 0 = ap length (sym inv.rest) ∙ sym inv.len ∙ c.in-None.ensures.steps.0 in
    let all : n ≡ length shards = drop_last shards n (omega (arith, inv.within)) none in
    subst (λ (m : ℕ). AreLocalIds (shard_of c.args.hasher) m (lent_lists c.args.lists.now) (map vec_items c.loop-shard.local_ids.items)) (all ∙ c.requires.len) inv.local_ids
