use Rattle.workers.specs.Private.View.{planned_view}
use Rattle.workers.proofs.Progressed.{committed_progress}
use Rattle.workers.proofs.planned.Planned.commit.Goals as goal

pub invariant_of-self : goal.invariant_of-self
invariant_of-self c = committed_progress (planned_view c.self.inside) c.args.commit.now c.commit.new.self c.commit.result c.self.invariant c.commit.ensures.ok c.commit.ensures.err
