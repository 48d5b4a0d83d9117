use Rattle.std.proofs.Common.{rules}
use Rattle.keyed_table.proofs.table.Table.counts.Goals as goal

pub returns : goal.returns
returns c = search rules
