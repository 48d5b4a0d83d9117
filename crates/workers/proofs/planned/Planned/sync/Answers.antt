use Rattle.workers.specs.Private.View.{planned_view}
use Rattle.workers.proofs.Progressed.{synced_progress}
use Rattle.workers.proofs.planned.Planned.sync.Goals as goal

pub invariant_of-self : goal.invariant_of-self
invariant_of-self c = synced_progress (planned_view c.self.inside) c.args.member c.sync.new.self c.sync.result c.self.invariant c.sync.ensures.ok c.sync.ensures.err
