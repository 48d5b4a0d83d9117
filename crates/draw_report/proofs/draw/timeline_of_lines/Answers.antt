use Rattle.std.proofs.Common.{◌∙◌, ap, inl}
use Rattle.timeline_recorder.specs.Recording.{opening_recording}
use Rattle.world.specs.World.{WorldState}
use Rattle.group_machine.specs.Cluster.{ClusterState}
use Rattle.draw_report.proofs.Shown.{timeline_shown}
use Rattle.draw_report.proofs.draw.timeline_of_lines.Goals as goal

pub returns-clause-answer : goal.returns-clause-answer
returns-clause-answer c =
    let sized = c.partitions.ensures.count ∙ ap (λ (s : ClusterState). s.group.partitions) c.cluster.ensures.cluster in
    inl (timeline_shown c.args.batch c.args.world.now c.perform_lines.new.world c.args.lines.now c.in_ok-recorder.recorder c.in_ok-recorder-2.recorder c.cluster-2.result.now c.in_ok-finished.field-0
    c.in_ok-recorder-2.ensures.steps (c.in_ok-recorder.ensures ∙ ap opening_recording sized) c.cluster-2.ensures.cluster c.in_ok-finished.ensures)
