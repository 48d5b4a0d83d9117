use Rattle.std.proofs.Common.{rules}
use Rattle.keyed_table.proofs.table.Table.merge.Goals as goal

pub add_list-requires-clause-numbers : goal.add_list-requires-clause-numbers
add_list-requires-clause-numbers c = rw c.ids.ensures c.requires.numbers

pub add_list-requires-clause-sums : goal.add_list-requires-clause-sums
add_list-requires-clause-sums c = rw c.ids.ensures c.requires.sums

pub returns : goal.returns
returns c = search rules
