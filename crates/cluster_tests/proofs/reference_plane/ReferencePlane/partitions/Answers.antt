use Rattle.std.proofs.Common.{sym}
use Rattle.cluster_tests.proofs.reference_plane.Flags.{below_is}
use Rattle.cluster_tests.proofs.reference_plane.ReferencePlane.partitions.Goals as goal

pub returns-clause-value : goal.returns-clause-value
returns-clause-value c = sym (below_is c.self.inside.partitions c.self.inside.flags c.args.self.now c.self.invariant.few c.self.told c.self.view_is)
