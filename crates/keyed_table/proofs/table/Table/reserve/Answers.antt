use Rattle.std.proofs.Common.{rules}
use Rattle.keyed_table.proofs.table.Table.reserve.Goals as goal

pub invariant_of-self : goal.invariant_of-self
invariant_of-self c = search rules

pub returns-in_ok-extend_from_slice-clause-capacity : goal.returns-in_ok-extend_from_slice-clause-capacity
returns-in_ok-extend_from_slice-clause-capacity c = search rules
