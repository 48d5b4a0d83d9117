use Rattle.std.proofs.Common.{rules, subst, ◌≡◌}
use Rattle.workers.specs.Private.Applied.{IsFinished}
use Rattle.workers.specs.Private.View.{planned_view}
use Rattle.workers.specs.Progress.{Progress}
use Rattle.workers.specs.Runs.{IsRunOf}
use Rattle.workers.proofs.Ended.{run_of}
use Rattle.workers.proofs.planned.Planned.run_result.Goals as goal

pub returns : goal.returns
returns g c =
    let done : IsFinished (planned_view c.self.inside) = search rules in
    let plan : c.self.inside.plan ≡ c.args.plan.now = search rules in
    let logs : c.args.logs.now ≡ c.self.inside.cluster.logs = search rules in
    let run = run_of (planned_view c.self.inside) c.args.logs.now c.args.plan.now c.self.invariant c.logs.ensures.valid done plan logs in
    subst (λ (s : Progress). IsRunOf c.args.logs.now c.args.plan.now s.cluster) c.self.view_is run
