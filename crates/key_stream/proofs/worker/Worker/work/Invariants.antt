use Rattle.key_stream.specs.Layouts.{WorksBy}
use Rattle.key_stream.proofs.worker.Worker.work.Given as goal

abbrev pub invariant-loop : goal.invariant-loop
invariant-loop l = WorksBy l.fn.layout l.fn.chunks l.fn.self l.self
