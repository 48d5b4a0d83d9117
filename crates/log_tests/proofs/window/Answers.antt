use Rattle.std.proofs.Common.{rules}
use Rattle.log_tests.proofs.window.Goals as goal

pub returns : goal.returns
returns c = search rules
