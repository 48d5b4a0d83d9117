use Rattle.std.proofs.Common.{rules}
use Rattle.key_stream.proofs.Turns.{first-and-others, none-work}
use Rattle.key_stream.proofs.worker.+workers.Goals as goal

pub returns-in_default-clause-each : goal.returns-in_default-clause-each
returns-in_default-clause-each g t c = none-work c.args.layout.now c.args.chunks c.args.workers.now

pub returns-clause-each : goal.returns-clause-each
returns-clause-each g t c =
    first-and-others c.args.layout.now c.args.chunks c.args.workers.now c.in-Some.worker.now _ c.in-Some.workers.now _ (search rules) (search rules) (search rules)
