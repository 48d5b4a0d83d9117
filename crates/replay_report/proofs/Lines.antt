-- The text of a script's lines, line by line.
use Rattle.std.proofs.Common.{◌≡◌, ◌≢◌, ◌∙◌, ◌+◌, ◌<◌, ◌≤◌, ℕ, suc, List, [], ◌∷◌, ◌++◌, Ok, Err, Result, add-one, append_assoc, drop, drop-cons, get_or, inl, inr, length, Option, sym, ap, refl, subst}
use Rattle.std.specs.Prelude.{◌⊎◌}
use Rattle.std.proofs.lemmas.List.{drop_all}
use Rattle.lane_words.specs.declared.Refusal.{Refusal}
use Rattle.lane_words.specs.declared.Refusal.TheVariants as r
use Rattle.script.specs.declared.replay.Line.{Line}
use Rattle.partitioner.specs.declared.topic.Topic.{Topic}
use Rattle.world.specs.World.{WorldState}
use Rattle.replay_report.specs.ReplayReport.{rows_of_answer, rows_of_line, text_before, text_of_lines}
use Rattle.replay_steps.specs.Lines.{LineOutcome, outcome_of_line, unless_over}
use Rattle.replay_steps.specs.Shown.{IsLineFault}
use Rattle.group_machine.specs.Cluster.{ClusterState}
use Rattle.report_rows.specs.ReplayRows.{closing_rows, move_rows}
use Rattle.replay_report.specs.Private.Replay.{WritesText}

not_final : (answer : Result (Unit {0}) Refusal) (text : Result (List ℕ) Refusal) → answer ≢ Err r.GenerationsOver → unless_over answer text ≡ text
not_final (Err r.GenerationsOver) text h = absurd (h refl)
not_final answer text h = refl

pub text_of_lines-nil : (topics : List Topic) (top : Option ℕ) (batch : ℕ) (w : WorldState) → text_of_lines topics top batch w [] ≡ Ok (closing_rows topics top w.cluster)
unfolding text_of_lines
text_of_lines-nil topics top batch w = refl

pub text_of_lines-next : (topics : List Topic) (top : Option ℕ) (batch : ℕ) (w : WorldState) (line : Line) (lines : List Line) → (outcome_of_line batch w line).answer ≢ Err r.GenerationsOver
    → text_of_lines topics top batch w (line ∷ lines) ≡ text_before (rows_of_line topics line.number w (outcome_of_line batch w line)) (text_of_lines topics top batch (outcome_of_line batch w line).after lines)
unfolding text_of_lines
text_of_lines-next topics top batch w line lines h = not_final _ _ h

pub text_of_lines-over : (topics : List Topic) (top : Option ℕ) (batch : ℕ) (w : WorldState) (line : Line) (lines : List Line) → (outcome_of_line batch w line).answer ≡ Err r.GenerationsOver → text_of_lines topics top batch w (line ∷ lines) ≡ Err r.GenerationsOver
unfolding text_of_lines
text_of_lines-over topics top batch w line lines h = rw h refl

pub text_before-both : (a b : List ℕ) (text : Result (List ℕ) Refusal) → text_before a (text_before b text) ≡ text_before (a ++ b) text
text_before-both a b (Ok rest) = ap Ok (sym (append_assoc a b rest))
text_before-both a b (Err fault) = refl

pub fault_before : (a : List ℕ) (text : Result (List ℕ) Refusal) (fault : Refusal) → text ≡ Err fault → text_before a text ≡ Err fault
fault_before a text fault h = rw h refl

pub written : (Written : List ℕ → Type 0) (text now more : List ℕ) (expected : Result (List ℕ) Refusal) → text_before now (Ok more) ≡ text_before text expected → Written (now ++ more) → WritesText expected text Written
written Written text now more (Ok rest) e h = let same : now ++ more ≡ text ++ rest = cc e in (rest, refl, subst Written same h)
written Written text now more (Err fault) e h = absurd (cc e)

-- ---- one line
pub rows_written : (topics : List Topic) (Written : List ℕ → Type 0) (text rows : List ℕ) (line from : ℕ) (w w2 : WorldState) (s : ClusterState) (outcome : LineOutcome) (answer : Result (Unit {0}) Refusal) → answer ≡ outcome.answer → w2 ≡ outcome.after → s ≡ w2.cluster
    → from ≡ length w.cluster.group.moves → rows ≡ rows_of_answer line answer → Written ((text ++ move_rows topics s.group (drop from s.group.moves)) ++ rows) → Written (text ++ rows_of_line topics line w outcome)
unfolding rows_of_line
rows_written topics Written text rows line from w w2 s outcome answer answer_is after_is s_is from_is rows_is h =
    let after : s ≡ outcome.after.cluster = s_is ∙ ap (λ (x : WorldState). x.cluster) after_is in
    let reported : rows ≡ rows_of_answer line outcome.answer = rows_is ∙ ap (rows_of_answer line) answer_is in
    subst Written (append_assoc text (move_rows topics s.group (drop from s.group.moves)) rows
    ∙ ap (λ (x : ClusterState). text ++ (move_rows topics x.group (drop from x.group.moves) ++ rows)) after
    ∙ ap (λ n. text ++ (move_rows topics outcome.after.cluster.group (drop n outcome.after.cluster.group.moves) ++ rows)) from_is
    ∙ ap (λ rs. text ++ (move_rows topics outcome.after.cluster.group (drop (length w.cluster.group.moves) outcome.after.cluster.group.moves) ++ rs)) reported) h

-- ---- one of many lines
next_line : (lines : List Line) (i : ℕ) (line : Line) → i < length lines → line ≡ get_or lines i line → drop i lines ≡ line ∷ drop (i + 1) lines
next_line lines i line lt is = drop-cons lines i line lt ∙ ap (λ x. x ∷ drop (suc i) lines) (sym is) ∙ rw add-one refl

pub lines_step : (topics : List Topic) (top : Option ℕ) (batch : ℕ) (w w2 : WorldState) (lines : List Line) (i : ℕ) (line : Line) → i < length lines → line ≡ get_or lines i line → (outcome_of_line batch w line).answer ≢ Err r.GenerationsOver
    → w2 ≡ (outcome_of_line batch w line).after
    → text_of_lines topics top batch w (drop i lines) ≡ text_before (rows_of_line topics line.number w (outcome_of_line batch w line)) (text_of_lines topics top batch w2 (drop (i + 1) lines))
lines_step topics top batch w w2 lines i line lt is goes after =
    ap (text_of_lines topics top batch w) (next_line lines i line lt is) ∙ text_of_lines-next topics top batch w line (drop (i + 1) lines) goes
    ∙ ap (λ x. text_before (rows_of_line topics line.number w (outcome_of_line batch w line)) (text_of_lines topics top batch x (drop (i + 1) lines))) (sym after)

pub text_step : (now rows : List ℕ) (left before after : Result (List ℕ) Refusal) → before ≡ text_before rows after → text_before now before ≡ left → text_before (now ++ rows) after ≡ left
text_step now rows left before after step h = sym (text_before-both now rows after) ∙ ap (text_before now) (sym step) ∙ h

pub lines_fault : (topics : List Topic) (top : Option ℕ) (batch : ℕ) (w : WorldState) (lines : List Line) (i : ℕ) (line : Line) (whole : Result (List ℕ) Refusal) (e : Refusal) → i < length lines → line ≡ get_or lines i line
    → ((x : Refusal) → text_of_lines topics top batch w (drop i lines) ≡ Err x → whole ≡ Err x) → IsLineFault (outcome_of_line batch w line).answer e → (e ≡ r.Memory) ⊎ (whole ≡ Err e)
lines_fault topics top batch w lines i line whole e lt is reported (inl m) = inl m
lines_fault topics top batch w lines i line whole e lt is reported (inr over) =
    inr (reported e (ap (text_of_lines topics top batch w) (next_line lines i line lt is) ∙ text_of_lines-over topics top batch w line (drop (i + 1) lines) over.1 ∙ ap Err (sym over.0)))

pub lines_end : (topics : List Topic) (top : Option ℕ) (batch : ℕ) (w : WorldState) (s : ClusterState) (lines : List Line) (i : ℕ) (now text : List ℕ) (whole : Result (List ℕ) Refusal) (Written : List ℕ → Type 0) → length lines ≤ i → s ≡ w.cluster
    → text_before now (text_of_lines topics top batch w (drop i lines)) ≡ text_before text whole → Written (now ++ closing_rows topics top s) → WritesText whole text Written
lines_end topics top batch w s lines i now text whole Written h s_is e done =
    let last : text_of_lines topics top batch w (drop i lines) ≡ Ok (closing_rows topics top s) = ap (text_of_lines topics top batch w) (drop_all i lines h) ∙ text_of_lines-nil topics top batch w ∙ ap (λ (x : ClusterState). Ok (closing_rows topics top x)) (sym s_is) in
    written Written text now (closing_rows topics top s) whole (ap (text_before now) (sym last) ∙ e) done
