-- The timeline of the steps that a recorder was shown.
use Rattle.std.proofs.Common.{◌≡◌, ◌∙◌, ℕ, List, ap, sym}
use Rattle.std.specs.Prelude.{fold, Result, Ok}
use Rattle.std.specs.Result.{result_map_both}
use Rattle.group_machine.specs.Cluster.{ClusterState}
use Rattle.lane_words.specs.declared.Refusal.{Refusal}
use Rattle.script.specs.declared.replay.Line.{Line}
use Rattle.replay_steps.specs.Lines.{steps_of_lines, world_after}
use Rattle.replay_steps.specs.Shown.{AreShown}
use Rattle.replay_steps.specs.Steps.{StepTaken}
use Rattle.timeline.specs.Timelines.{TimelineState}
use Rattle.timeline_recorder.specs.Recording.{Recording, finished, opening_recording, recorded, timeline_of}
use Rattle.world.specs.World.{WorldState}
use Rattle.draw_report.specs.DrawReport.{timeline_of_lines}

abbrev Records : Recording → List StepTaken → Recording → Type 0
Records a steps b = b ≡ fold recorded a steps

timeline_is : (w : WorldState) (steps : List StepTaken) (r0 r1 : Recording) (s : ClusterState) (t : TimelineState) → r0 ≡ opening_recording w.cluster.group.partitions → r1 ≡ fold recorded r0 steps → s ≡ (world_after w steps).cluster
    → t ≡ finished r1 s → t ≡ timeline_of w steps
unfolding timeline_of
timeline_is w steps r0 r1 s t begun shown left is =
    is ∙ ap (finished r1) left ∙ ap (λ r. finished r (world_after w steps).cluster) (shown ∙ ap (λ r. fold recorded r steps) begun)

pub timeline_shown : (batch : ℕ) (w w2 : WorldState) (lines : List Line) (r0 r1 : Recording) (s : ClusterState) (t : TimelineState) → AreShown Records (steps_of_lines batch w lines) w r0 w2 r1
    → r0 ≡ opening_recording w.cluster.group.partitions → s ≡ w2.cluster → t ≡ finished r1 s → Ok t ≡ timeline_of_lines batch w lines
unfolding timeline_of_lines
timeline_shown batch w w2 lines r0 r1 s t x begun left is =
    let same : t ≡ timeline_of w x.steps = timeline_is w x.steps r0 r1 s t begun x.shown (left ∙ ap (λ (v : WorldState). v.cluster) x.world_is) is in
    let f : Result (List StepTaken) Refusal → Result TimelineState Refusal = result_map_both (timeline_of w) (λ fault. fault) in
    ap (λ (v : TimelineState). let o : Result TimelineState Refusal = Ok v in o) same ∙ sym (ap f x.steps_are)
