use Rattle.std.proofs.Common.{◌∙◌, ap}
use Rattle.group_machine.specs.Cluster.{with_group}
use Rattle.group_machine.specs.Steps.{joined_by}
use Rattle.workers.proofs.planned.apply.Goals as goal

pub returns-in_ok-join-in-Join-clause-ok : goal.returns-in_ok-join-in-Join-clause-ok
returns-in_ok-join-in-Join-clause-ok c = rw c.in-Join.is (c.in_ok-join-in-Join.ensures.ok ∙ ap (λ name. with_group c.args.cluster.now (joined_by c.args.cluster.now.group name)) c.copy.ensures)
