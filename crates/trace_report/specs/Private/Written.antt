-- The rows that are written as steps are shown, and the laws of them.
use Rattle.std.specs.Prelude.{◌≡◌, ℕ, List, [], ◌++◌, Vec, drop}
use Rattle.std.specs.Global.{Global}
use Rattle.std.proofs.Common.{◌∙◌, append_assoc, refl, subst, sym, ap}
use Rattle.std.proofs.lemmas.Grind.{flat_map-append}
use Rattle.std.proofs.lemmas.List.{append-nil}
use Rattle.csv.specs.declared.writer.Writer.{Writer}
use Rattle.partitioner.specs.declared.topic.Topic.{Topic}
use Rattle.report_rows.specs.Rows.{AddsRows, HasText}
use Rattle.replay_steps.specs.Steps.{StepTaken}
use Rattle.trace_report.specs.TraceRows.{row_of_step, rows_of_steps}

-- the rows of these steps were written, and the topics are the same
pub record AddsSteps (topics : List Topic) (writer : Writer (Vec ℕ Global)) (steps : List StepTaken)
    (topics2 : List Topic) (writer2 : Writer (Vec ℕ Global)) : Type 0 where
  pub same_topics : topics2 ≡ topics
  pub rows : AddsRows writer writer2 (rows_of_steps topics steps)

pub adds_no_steps : (topics : List Topic) (writer : Writer (Vec ℕ Global))
    → AddsSteps topics writer [] topics writer
adds_no_steps topics writer = record {
  same_topics = refl;
  rows = λ text begun. subst (HasText writer) (sym (append-nil text)) begun;
}

pub adds_more_steps : (topics : List Topic) (writer : Writer (Vec ℕ Global))
    (first : List StepTaken) (topics2 : List Topic) (writer2 : Writer (Vec ℕ Global))
    (second : List StepTaken) (topics3 : List Topic) (writer3 : Writer (Vec ℕ Global))
    → AddsSteps topics writer first topics2 writer2
    → AddsSteps topics2 writer2 second topics3 writer3
    → AddsSteps topics writer (first ++ second) topics3 writer3
adds_more_steps topics writer first topics2 writer2 second topics3 writer3 one two =
    let before : List ℕ → List ℕ = λ text. text ++ rows_of_steps topics first in
    record {
      same_topics = two.same_topics ∙ one.same_topics;
      rows = λ text begun.
          subst (HasText writer3)
          (ap (λ t. before text ++ rows_of_steps t second) one.same_topics
          ∙ append_assoc text (rows_of_steps topics first) (rows_of_steps topics second)
          ∙ ap (λ rows. text ++ rows) (sym (flat_map-append (row_of_step topics) first second)))
          (two.rows (before text) (one.rows text begun));
    }
