use Rattle.std.proofs.Common.{◌≡◌, ◌∙◌, ap}
use Rattle.std.proofs.lemmas.Result.{IfOk-weaker}
use Rattle.group_machine.specs.Cluster.{ClusterState}
use Rattle.replay_steps.specs.Steps.{taken}
use Rattle.trace_report.proofs.RowCells.{begins_empty, whole_row}
use Rattle.trace_report.proofs.rows.make_row.Goals as goal

pub returns : goal.returns
returns c =
    let w = c.args.world.now in
    let all : c.partitions.result ≡ w.cluster.group.partitions = c.partitions.ensures.count ∙ ap (λ (s : ClusterState). s.group.partitions) c.cluster.ensures.cluster in
    let place = rw (all, c.details_of-details.ensures) at c.in_ok-push_partition.ensures in
    let between = rw c.details_of-details.ensures at c.in_ok-push_between.ensures w in
    IfOk-weaker c.push_after.result _ _ (λ _ last. whole_row c.args.topics.now (taken c.args.step.now w) c.clear.new.self c.push_before.new.row c.push_partition.new.row c.push_between.new.row c.push_after.new.row
    (begins_empty c.clear.new.self c.clear.ensures.fields c.clear.ensures.partial) (c.in_ok-push_before.ensures w) place between last) c.push_after.ensures
