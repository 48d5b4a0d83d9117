use Rattle.std.proofs.Common.{rules}
use Rattle.key_counts.proofs.counts.find_short.Goals as goal

pub returns-then-is_copy_of : goal.returns-then-is_copy_of
returns-then-is_copy_of c = search rules
