-- The cells of rows, one after another.
use Rattle.std.proofs.Common.{◌≡◌, ◌≢◌, ◌∙◌, ℕ, List, [], ◌∷◌, ◌++◌, Ok, append_assoc, ap, refl, subst, sym}
use Rattle.std.specs.Result.{result_map_both}
use Rattle.std.specs.Prelude.{Vec, codes}
use Rattle.std.specs.Global.{Global}
use Rattle.std.proofs.lemmas.List.{append-nil}
use Rattle.csv.specs.Records.{Row, fields_of, partial_of}
use Rattle.csv.specs.Writing.{row_text}
use Rattle.csv.specs.declared.writer.Writer.{Writer}
use Rattle.partitioner.specs.declared.topic.Topic.{Topic}
use Rattle.report_rows.specs.Rows.{AddsRows, HasText, row_writer}
use Rattle.replay_steps.specs.Steps.{StepTaken}
use Rattle.trace_report.specs.Cells.{details_of, partition_cells}
use Rattle.trace_report.specs.Private.Row.{AddsCells, HasCells}
use Rattle.trace_report.specs.Private.Written.{AddsSteps}
use Rattle.trace_report.specs.TraceRows.{cells_before, cells_between, cells_of_step, group_cells, header_row, partition_columns, row_of_step, rows_of_steps}
use Rattle.trace_report.specs.TraceReport.{trace_of_lines}
use Rattle.replay_steps.specs.Lines.{steps_of_lines}
use Rattle.script.specs.declared.replay.Line.{Line}
use Rattle.world.specs.World.{WorldState}

pub adds_more : (a b c : Row) (xs ys : List (List ℕ)) → AddsCells a b xs → AddsCells b c ys → AddsCells a c (xs ++ ys)
adds_more a b c xs ys one two before has = subst (HasCells c) (append_assoc before xs ys) (two (before ++ xs) (one before has))

pub begins_empty : (row : Row) → fields_of row ≡ [] → partial_of row ≡ [] → HasCells row []
begins_empty row fields partial = record { cells_are = fields; whole = partial }

made : (row : Row) (cells : List (List ℕ)) → HasCells row ([] ++ cells) → fields_of row ≡ cells
made row cells has = has.cells_are

-- the cells of a row that was made from nothing
pub whole_row : (topics : List Topic) (step : StepTaken) (a b c d e : Row) → HasCells a [] → AddsCells a b (cells_before step) → AddsCells b c (partition_cells topics step.after.cluster.group.partitions (details_of step).partition)
    → AddsCells c d (cells_between step (details_of step)) → AddsCells d e (group_cells topics step.after) → fields_of e ≡ cells_of_step topics step
whole_row topics step a b c d e none one two three four =
    let place = partition_cells topics step.after.cluster.group.partitions (details_of step).partition in
    let between = cells_between step (details_of step) in
    let group = group_cells topics step.after in
    let first : AddsCells a c (cells_before step ++ place) = adds_more a b c (cells_before step) place one two in
    let second : AddsCells a d ((cells_before step ++ place) ++ between) = adds_more a c d (cells_before step ++ place) between first three in
    let all : AddsCells a e (cells_of_step topics step) = adds_more a d e ((cells_before step ++ place) ++ between) group second four in
    made e (cells_of_step topics step) (all [] none)

pub step_added : (topics topics2 : List Topic) (writer writer2 : Writer (Vec ℕ Global)) (step : StepTaken) (cells : List (List ℕ)) → topics2 ≡ topics → cells ≡ cells_of_step topics step → AddsRows writer writer2 (row_text row_writer cells) → AddsSteps topics writer (step ∷ []) topics2 writer2
step_added topics topics2 writer writer2 step cells same made added =
    record {
      same_topics = same;
      rows = λ text begun. subst (λ rows. HasText writer2 (text ++ rows)) (ap (row_text row_writer) made ∙ sym (append-nil (row_of_step topics step))) (added text begun);
    }

pub header_without : (topics : List Topic) → topics ≡ []
    → header_row topics ≡ row_text row_writer (codes "line" ∷ codes "step" ∷ codes "event" ∷ codes "member" ∷ codes "partition" ∷ codes "from" ∷ codes "to" ∷ codes "commit" ∷ codes "code" ∷ codes "reason" ∷ codes "generation" ∷ codes "phase" ∷ codes "waiting" ∷ codes "granted" ∷ codes "unread" ∷ codes "lag" ∷ [])
unfolding header_row
header_without [] none = refl
header_without (topic ∷ topics) none = let no : ⊥ = cc none in absurd no

pub header_with : (topics : List Topic) → topics ≢ []
    → header_row topics ≡ row_text row_writer (codes "line" ∷ codes "step" ∷ codes "event" ∷ codes "member" ∷ codes "topic" ∷ codes "partition" ∷ codes "from" ∷ codes "to" ∷ codes "commit" ∷ codes "code" ∷ codes "reason" ∷ codes "generation" ∷ codes "phase" ∷ codes "waiting" ∷ codes "granted" ∷ codes "unread" ∷ codes "lag" ∷ [])
unfolding header_row
header_with [] some = absurd (some refl)
header_with (topic ∷ topics) some = refl

pub text_told : (topics begun : List Topic) (batch : ℕ) (w : WorldState) (lines : List Line) (steps : List StepTaken) (items : List ℕ) → steps_of_lines batch w lines ≡ Ok steps → begun ≡ topics → items ≡ header_row topics ++ rows_of_steps begun steps → Ok items ≡ trace_of_lines topics batch w lines
unfolding trace_of_lines
text_told topics begun batch w lines steps items steps_are same written =
    ap Ok (written ∙ ap (λ t. header_row topics ++ rows_of_steps t steps) same)
    ∙ sym (ap (result_map_both (λ xs. header_row topics ++ rows_of_steps topics xs) (λ fault. fault)) steps_are)
