use Rattle.key_stream.proofs.Turns.{first-work}
use Rattle.key_stream.proofs.counting.work_first.Goals as goal

pub returns-clause-each : goal.returns-clause-each
returns-clause-each g c =
    first-work c.args.layout.now c.args.chunks c.args.workers.now c.work_and_read.new.workers c.args.threads c.requires.threads c.work_and_read.ensures.len c.work_and_read.ensures.each
