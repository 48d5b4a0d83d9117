use Rattle.std.proofs.Common.{rules}
use Rattle.driver_tests.proofs.longer.Goals as goal

pub returns : goal.returns
returns c = search rules
