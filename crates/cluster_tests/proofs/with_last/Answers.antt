use Rattle.std.proofs.Common.{rules}
use Rattle.cluster_tests.proofs.with_last.Goals as goal

pub returns : goal.returns
returns c = search rules
