use Rattle.std.proofs.Common.{subst}
use Rattle.key_counts.specs.Merging.{IsDivided}
use Rattle.key_counts.proofs.Divided.{divided}
use Rattle.key_counts.proofs.merging.Merging.parts.Goals as goal

pub returns-clause-divided : goal.returns-clause-divided
returns-clause-divided c = subst IsDivided c.self.view_is (divided c.self.inside.prepared c.self.inside.bounds.items c.self.inside.left c.self.invariant.0 c.self.invariant.1)
