use Rattle.std.proofs.Common.{◌∙◌, arith}
use Rattle.std.proofs.lemmas.Grind.{common_steps}
use Rattle.partition_log.specs.Private.Tables.{number_taken, place_taken}
use Rattle.partition_log.proofs.EntryTables.{entries-distinct, entries-numbered}
use Rattle.partition_log.proofs.tables.entry_tables.Goals as goal

pub returns-clause-keys : goal.returns-clause-keys
returns-clause-keys g c = c.in_ok-interned.ensures.keys.keys ∙ entries-distinct c.args.taken.now c.requires.taken

pub returns-clause-places : goal.returns-clause-places
returns-clause-places g c =
    c.in_ok-tables.ensures.places (place_taken c.args.logs.now c.args.taken.now.has_topics) (c.deref.ensures.value ∙ c.in_ok-interned.ensures.places)

pub returns-clause-numbers : goal.returns-clause-numbers
returns-clause-numbers g c =
    let taken = c.args.taken.now in
    c.in_ok-tables.ensures.numbers (number_taken taken) (c.deref-2.ensures.value ∙ c.in_ok-interned.ensures.keys.ids ∙ entries-numbered taken c.requires.taken)

pub both_tables-requires-clause-places : goal.both_tables-requires-clause-places
both_tables-requires-clause-places g c = grind (arith, common_steps)

pub both_tables-requires-clause-numbers : goal.both_tables-requires-clause-numbers
both_tables-requires-clause-numbers g c = grind (arith, common_steps)
