use Rattle.std.proofs.Common.{sym}
use Rattle.bit_planes.proofs.Seen.{below_is}
use Rattle.bit_planes.proofs.plane.Plane.partitions.Goals as goal

pub returns-clause-value : goal.returns-clause-value
returns-clause-value c = sym (below_is c.self.inside.partitions c.self.inside.words c.args.self.now c.self.view_is)
