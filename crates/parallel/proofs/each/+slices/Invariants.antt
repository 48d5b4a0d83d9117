use Rattle.std.proofs.Common.{◌+◌, ◌*◌, length}
use Rattle.parallel.proofs.each.+slices.Given as goal

abbrev pub decreases-call_slices : goal.decreases-call_slices
decreases-call_slices g l = 4 * length l.items.now

abbrev pub decreases-call_both : goal.decreases-call_both
decreases-call_both g l = 4 * length l.others.now + 2

abbrev pub decreases-call_both-rest : goal.decreases-call_both-rest
decreases-call_both-rest g l = 4 * length l.others.now + 1
