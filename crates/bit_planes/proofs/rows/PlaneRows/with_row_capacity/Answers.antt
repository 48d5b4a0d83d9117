use Rattle.std.proofs.Common.{rules}
use Rattle.bit_planes.proofs.rows.PlaneRows.with_row_capacity.Goals as goal

pub returns-clause-value : goal.returns-clause-value
returns-clause-value c = search rules
