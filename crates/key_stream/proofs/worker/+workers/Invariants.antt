use Rattle.std.proofs.Common.{◌+◌, ◌*◌, length}
use Rattle.key_stream.proofs.worker.+workers.Given as goal

abbrev pub decreases-join_mut+arg3 : goal.decreases-join_mut+arg3
decreases-join_mut+arg3 g l = 2 * length l.workers.now + 1

abbrev pub decreases-work_parallel : goal.decreases-work_parallel
decreases-work_parallel g l = 2 * length l.workers.now
