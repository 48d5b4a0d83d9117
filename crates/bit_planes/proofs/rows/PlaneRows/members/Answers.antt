use Rattle.std.proofs.Common.{rules}
use Rattle.bit_planes.proofs.rows.PlaneRows.members.Goals as goal

pub returns : goal.returns
returns c = search rules
