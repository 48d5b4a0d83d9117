use Rattle.std.proofs.Common.{rules}
use Rattle.key_counts.proofs.counts.keep_code.Goals as goal

pub returns-in_ok-push-clause-ok : goal.returns-in_ok-push-clause-ok
returns-in_ok-push-clause-ok c = search rules
