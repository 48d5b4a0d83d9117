-- A trace, next to the replay of the same script.
use Rattle.std.proofs.Common.{◌≡◌, ◌∙◌, ℕ, List, [], ◌∷◌, ◌++◌, Ok, Err, Option, Result, append_assoc, ap, refl, subst, sym}
use Rattle.lane_words.specs.declared.Refusal.{Refusal}
use Rattle.lane_words.specs.declared.Refusal.TheVariants as r
use Rattle.partitioner.specs.declared.topic.Topic.{Topic}
use Rattle.report_rows.specs.ReplayRows.{closing_rows}
use Rattle.replay_report.specs.ReplayReport.{rows_of_line, text_before, text_of_lines}
use Rattle.replay_steps.proofs.Lines.{world_after_append, world_after_line}
use Rattle.replay_steps.specs.Lines.{items_before, outcome_of_line, steps_of_lines, unless_over, world_after}
use Rattle.replay_steps.specs.Steps.{StepTaken}
use Rattle.script.specs.declared.replay.Line.{Line}
use Rattle.trace_report.specs.TraceLaws.{IsToldBy, TellsOfReplay}
use Rattle.world.specs.World.{WorldState}

told_before : (topics : List Topic) (top : Option ℕ) (w x : WorldState) (steps : List StepTaken) (rows : List ℕ) (rest : Result (List StepTaken) Refusal) (text : Result (List ℕ) Refusal) → world_after w steps ≡ x → IsToldBy topics top x rest text
    → IsToldBy topics top w (items_before steps rest) (text_before rows text)
told_before topics top w x steps rows (Ok more) (Ok text) after told =
    let last : world_after x more ≡ world_after w (steps ++ more) = ap (λ y. world_after y more) (sym after) ∙ sym (world_after_append w steps more) in
    (rows ++ told.0, ap (λ t. rows ++ t) told.1 ∙ sym (append_assoc rows told.0 (closing_rows topics top (world_after x more).cluster)) ∙ ap (λ (y : WorldState). (rows ++ told.0) ++ closing_rows topics top y.cluster) last)
told_before topics top w x steps rows (Ok more) (Err fault) after told = told
told_before topics top w x steps rows (Err fault) text after told = ap (text_before rows) told

told_unless : (topics : List Topic) (top : Option ℕ) (w : WorldState) (answer : Result (Unit {0}) Refusal) (steps : Result (List StepTaken) Refusal) (text : Result (List ℕ) Refusal) → IsToldBy topics top w steps text → IsToldBy topics top w (unless_over answer steps) (unless_over answer text)
told_unless topics top w (Err r.GenerationsOver) steps text told = refl
told_unless topics top w answer steps text told = told

pub tells : (topics : List Topic) (top : Option ℕ) (batch : ℕ) (w : WorldState) (lines : List Line) → TellsOfReplay topics top batch w lines
unfolding steps_of_lines text_of_lines world_after
tells topics top batch w [] = ([], refl)
tells topics top batch w (line ∷ lines) =
    let outcome = outcome_of_line batch w line in
    told_unless topics top w outcome.answer _ _
    (told_before topics top w outcome.after outcome.steps (rows_of_line topics line.number w outcome) (steps_of_lines batch outcome.after lines) (text_of_lines topics top batch outcome.after lines) (world_after_line batch w line) (tells topics top batch outcome.after lines))
