use Rattle.std.proofs.Common.{rules}
use Rattle.keyed_table.proofs.table.Table.new.Goals as goal

pub invariant_of-result : goal.invariant_of-result
invariant_of-result c = search rules
