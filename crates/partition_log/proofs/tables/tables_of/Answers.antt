use Rattle.std.proofs.Common.{◌≡◌, map, rules, ℕ}
use Rattle.parallel.proofs.Placed.{both-give}
use Rattle.key_index.specs.Keys.{Key}
use Rattle.partition_log.specs.Private.Tables.{AreTablesOf, entry_keys}
use Rattle.partition_log.proofs.EntryTables.{tables-of}
use Rattle.partition_log.proofs.tables.tables_of.Goals as goal

pub returns : goal.returns
returns g c =
    let taken = c.args.taken.now in
    let all = c.args.all.now in
    both-give c.collect_each.result _ _ (λ tables. (f : Key → ℕ) → all ≡ map f (entry_keys taken) → AreTablesOf f taken.workers.now tables.items)
    (λ tables many each f is. tables-of f taken all tables.items c.requires.taken many (λ w d lt. let own = (each w d lt).1.met in search rules) is) c.collect_each.ensures.len c.collect_each.ensures.each
