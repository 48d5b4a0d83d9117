use Rattle.std.proofs.Common.{◌<◌, arith}
use Rattle.workers.specs.Private.View.{planned_view}
use Rattle.workers.proofs.Progressed.{applied_fits}
use Rattle.workers.proofs.planned.Planned.applied.Goals as goal

pub overflow_cast-result : goal.overflow_cast-result
overflow_cast-result c =
    let few : c.self.inside.applied < 4294967296 = applied_fits (planned_view c.self.inside) c.self.invariant in
    omega arith
