-- The lines of a script, one after the other.
use Rattle.std.proofs.Common.{◌≡◌, ◌≢◌, ◌∙◌, ◌+◌, ◌<◌, ◌≤◌, ℕ, suc, List, [], ◌∷◌, ◌++◌, Ok, Err, Result, add-one, append_assoc, drop, drop-cons, get_or, inl, inr, length, sym, ap, refl, subst}
use Rattle.std.proofs.lemmas.List.{append-nil, drop_all}
use Rattle.lane_words.specs.declared.Refusal.{Refusal}
use Rattle.lane_words.specs.declared.Refusal.TheVariants as r
use Rattle.script.specs.declared.action.Action.{Action}
use Rattle.script.specs.declared.action.Action.TheVariants.{Append, AppendIn, Join, Keep, Return, Rejoin, Sync, Leave, Lose, Poll, Send, Deliver, Unanswered, Settle, Drain}
use Rattle.script.specs.declared.replay.Line.{Line}
use Rattle.world.specs.declared.event.Event.{Event}
use Rattle.world.specs.declared.event.Reply.{Reply}
use Rattle.world.proofs.Following.{step_comes}
use Rattle.world.specs.Courses.{Course, answer_in, outcome_of}
use Rattle.world.specs.Observing.{seen_of}
use Rattle.world.specs.Steps.{Comes, Outcome, Step}
use Rattle.world.specs.World.{WorldState}
use Rattle.replay_steps.specs.declared.step.StepEvent.{StepEvent}
use Rattle.replay_steps.specs.Lines.{EndsWithItsSteps, items_before, outcome_of_action, outcome_of_course, outcome_of_event, outcome_of_line, steps_of_lines, unless_over, world_after}
use Rattle.replay_steps.specs.Private.Walks.{IsPerformed, name_for}
use Rattle.replay_steps.specs.Shown.{AreShown, IsLineFault, IsScriptFault, IsShownLine}
use Rattle.replay_steps.specs.Steps.{StepTaken, closing_step, member_of, step_event, step_of, steps_of_seen}

-- ---- the last step of a line
event_ends : (line : ℕ) (what : StepEvent) (member : ℕ) (name : List ℕ) (outcome : Outcome) → EndsWithItsSteps (outcome_of_event line what member name outcome)
event_ends line what member name outcome = record { before = []; last = step_of line 1 what member name outcome; steps_are = refl; answer_is = refl; after_is = refl }

course_ends : (line : ℕ) (what : StepEvent) (w : WorldState) (c : Course) → EndsWithItsSteps (outcome_of_course line what w c)
course_ends line what w c =
    record {
      before = steps_of_seen line 1 (seen_of w c.events);
      last = closing_step line (1 + length (seen_of w c.events)) what c.answer c.after;
      steps_are = refl;
      answer_is = refl;
      after_is = refl;
    }

action_ends : (batch : ℕ) (w : WorldState) (line : ℕ) (action : Action) → EndsWithItsSteps (outcome_of_action batch w line action)
unfolding outcome_of_action
action_ends batch w line (Append key) = event_ends line _ _ _ _
action_ends batch w line (AppendIn topic key) = event_ends line _ _ _ _
action_ends batch w line (Join name) = event_ends line _ _ _ _
action_ends batch w line (Keep name) = event_ends line _ _ _ _
action_ends batch w line (Return name) = event_ends line _ _ _ _
action_ends batch w line (Rejoin name) = event_ends line _ _ _ _
action_ends batch w line (Sync name) = event_ends line _ _ _ _
action_ends batch w line (Leave name) = event_ends line _ _ _ _
action_ends batch w line (Lose name) = event_ends line _ _ _ _
action_ends batch w line (Poll name p n) = event_ends line _ _ _ _
action_ends batch w line (Send name p) = event_ends line _ _ _ _
action_ends batch w line (Deliver k) = event_ends line _ _ _ _
action_ends batch w line (Unanswered k) = event_ends line _ _ _ _
action_ends batch w line Settle = course_ends line _ w _
action_ends batch w line Drain = course_ends line _ w _

pub line_ends : (batch : ℕ) (w : WorldState) (line : Line) → EndsWithItsSteps (outcome_of_line batch w line)
line_ends batch w line = action_ends batch w line.number line.action

-- ---- the world after steps
pub world_after_append : (w : WorldState) (xs ys : List StepTaken) → world_after w (xs ++ ys) ≡ world_after (world_after w xs) ys
unfolding world_after
world_after_append w [] ys = refl
world_after_append w (x ∷ xs) ys = world_after_append x.after xs ys

world_after_last : (w : WorldState) (xs : List StepTaken) (last : StepTaken) → world_after w (xs ++ last ∷ []) ≡ last.after
unfolding world_after
world_after_last w [] last = refl
world_after_last w (x ∷ xs) last = world_after_last x.after xs last

pub world_after_line : (batch : ℕ) (w : WorldState) (line : Line) → world_after w (outcome_of_line batch w line).steps ≡ (outcome_of_line batch w line).after
world_after_line batch w line =
    let ends = line_ends batch w line in
    ap (world_after w) ends.steps_are ∙ world_after_last w ends.before ends.last ∙ ends.after_is

pub world_after_none : (w : WorldState) → world_after w [] ≡ w
unfolding world_after
world_after_none w = refl

-- ---- one event
pub step_came : (w w2 : WorldState) (e : Event) (replied : Reply) → Step w e replied w2 → answer_in replied ≢ Err r.Memory → Comes (outcome_of w e) replied w2
step_came w w2 e replied s other =
    elim (step_comes w e replied w2 s) [
      | inl comes ↦ comes
      | inr memory ↦ absurd (other (ap answer_in memory.0))
    ]

pub event_performed : {O : Type 0} (Shows : O → List StepTaken → O → Type 0) (o o2 : O) (w w2 : WorldState) (action : Action) (e : Event) (replied : Reply) (line next member : ℕ) (name : List ℕ) (what : StepEvent) (answer : Result (Unit {0}) Refusal)
    → Comes (outcome_of w e) replied w2 → next ≡ 1 → what ≡ step_event e → member ≡ member_of w2 e → name ≡ name_for w2 action member → answer ≡ answer_in replied → Shows o (step_of line next what member name (record { reply = replied; after = w2 }) ∷ []) o2
    → IsPerformed Shows (outcome_of_event line (step_event e) (member_of (outcome_of w e).after e) (name_for (outcome_of w e).after action (member_of (outcome_of w e).after e)) (outcome_of w e)) o answer w2 o2
event_performed Shows o o2 w w2 action e replied line next member name what answer comes first is about named answered shown =
    let outcome = outcome_of w e in
    let sender : member ≡ member_of outcome.after e = about ∙ ap (λ x. member_of x e) comes.1 in
    let called : name ≡ name_for outcome.after action (member_of outcome.after e) = named ∙ ap (λ x. name_for x action member) comes.1 ∙ ap (name_for outcome.after action) sender in
    let same : step_of line next what member name (record { reply = replied; after = w2 }) ≡ step_of line 1 (step_event e) (member_of outcome.after e) (name_for outcome.after action (member_of outcome.after e)) outcome =
    ap (λ n. step_of line n what member name (record { reply = replied; after = w2 })) first
    ∙ ap (λ x. step_of line 1 x member name (record { reply = replied; after = w2 })) is
    ∙ ap (λ m. step_of line 1 (step_event e) m name (record { reply = replied; after = w2 })) sender
    ∙ ap (λ t. step_of line 1 (step_event e) (member_of outcome.after e) t (record { reply = replied; after = w2 })) called
    ∙ ap (λ a. step_of line 1 (step_event e) (member_of outcome.after e) (name_for outcome.after action (member_of outcome.after e)) (record { reply = a; after = w2 })) comes.0
    ∙ ap (λ x. step_of line 1 (step_event e) (member_of outcome.after e) (name_for outcome.after action (member_of outcome.after e)) (record { reply = outcome.reply; after = x })) comes.1 in
    record {
      answer_is = answered ∙ ap answer_in comes.0;
      after_is = comes.1;
      shown = subst (λ x. Shows o (x ∷ []) o2) same shown;
    }

-- ---- one line and then the others
not_final : (answer : Result (Unit {0}) Refusal) (steps : Result (List StepTaken) Refusal) → answer ≢ Err r.GenerationsOver → unless_over answer steps ≡ steps
not_final (Err r.GenerationsOver) steps h = absurd (h refl)
not_final answer steps h = refl

pub steps_next : (batch : ℕ) (w : WorldState) (line : Line) (lines : List Line) → (outcome_of_line batch w line).answer ≢ Err r.GenerationsOver → steps_of_lines batch w (line ∷ lines) ≡ items_before (outcome_of_line batch w line).steps (steps_of_lines batch (outcome_of_line batch w line).after lines)
unfolding steps_of_lines
steps_next batch w line lines h = not_final _ _ h

pub steps_over : (batch : ℕ) (w : WorldState) (line : Line) (lines : List Line) → (outcome_of_line batch w line).answer ≡ Err r.GenerationsOver → steps_of_lines batch w (line ∷ lines) ≡ Err r.GenerationsOver
unfolding steps_of_lines
steps_over batch w line lines h = rw h refl

pub steps_none : (batch : ℕ) (w : WorldState) → steps_of_lines batch w [] ≡ Ok []
unfolding steps_of_lines
steps_none batch w = refl

items_before_both : (a b : List StepTaken) (rest : Result (List StepTaken) Refusal) → items_before a (items_before b rest) ≡ items_before (a ++ b) rest
items_before_both a b (Ok rest) = ap Ok (sym (append_assoc a b rest))
items_before_both a b (Err fault) = refl

items_before_none : (rest : Result (List StepTaken) Refusal) → items_before [] rest ≡ rest
items_before_none (Ok rest) = refl
items_before_none (Err fault) = refl

next_line : (lines : List Line) (i : ℕ) (line : Line) → i < length lines → line ≡ get_or lines i line → drop i lines ≡ line ∷ drop (i + 1) lines
next_line lines i line lt is = drop-cons lines i line lt ∙ ap (λ x. x ∷ drop (suc i) lines) (sym is) ∙ rw add-one refl

-- what was shown of the lines before the one at an index
pub record SoFar {O : Type 0} (Shows : O → List StepTaken → O → Type 0) (batch : ℕ) (w : WorldState) (o : O) (lines : List Line) (i : ℕ) (x : WorldState) (p : O) : Type 0 where
  pub steps : List StepTaken
  pub shown : Shows o steps p
  pub world_is : x ≡ world_after w steps
  pub left_is : items_before steps (steps_of_lines batch x (drop i lines)) ≡ steps_of_lines batch w lines

pub nothing_yet : {O : Type 0} (Shows : O → List StepTaken → O → Type 0) (batch : ℕ) (w : WorldState) (o p : O) (lines : List Line) → ((a : O) → Shows a [] a) → p ≡ o → SoFar Shows batch w o lines 0 w p
nothing_yet Shows batch w o p lines none same = record { steps = []; shown = subst (Shows o []) (sym same) (none o); world_is = sym (world_after_none w); left_is = items_before_none _ }

pub one_line_more : {O : Type 0} (Shows : O → List StepTaken → O → Type 0) (batch : ℕ) (w : WorldState) (o : O) (lines : List Line) (i : ℕ) (line : Line) (x y : WorldState) (p q : O) (answer : Result (Unit {0}) Refusal)
    → ((a b c : O) (xs ys : List StepTaken) → Shows a xs b → Shows b ys c → Shows a (xs ++ ys) c) → i < length lines → line ≡ get_or lines i line → SoFar Shows batch w o lines i x p → IsShownLine Shows (outcome_of_line batch x line) p answer y q → SoFar Shows batch w o lines (i + 1) y q
one_line_more Shows batch w o lines i line x y p q answer more lt is so_far goes =
    let outcome = outcome_of_line batch x line in
    record {
      steps = so_far.steps ++ outcome.steps;
      shown = more o p q so_far.steps outcome.steps so_far.shown goes.shown;
      world_is = goes.after_is ∙ sym (world_after_append w so_far.steps outcome.steps ∙ ap (λ z. world_after z outcome.steps) (sym so_far.world_is) ∙ world_after_line batch x line);
      left_is = sym (items_before_both so_far.steps outcome.steps (steps_of_lines batch y (drop (i + 1) lines)))
          ∙ ap (λ z. items_before so_far.steps (items_before outcome.steps (steps_of_lines batch z (drop (i + 1) lines)))) goes.after_is
          ∙ ap (items_before so_far.steps) (sym (ap (steps_of_lines batch x) (next_line lines i line lt is) ∙ steps_next batch x line (drop (i + 1) lines) goes.not_over))
          ∙ so_far.left_is;
    }

pub no_line_left : {O : Type 0} (Shows : O → List StepTaken → O → Type 0) (batch : ℕ) (w : WorldState) (o : O) (lines : List Line) (i : ℕ) (x : WorldState) (p : O) → length lines ≤ i → SoFar Shows batch w o lines i x p → AreShown Shows (steps_of_lines batch w lines) w o x p
no_line_left Shows batch w o lines i x p past so_far =
    record {
      steps = so_far.steps;
      steps_are = sym so_far.left_is ∙ ap (items_before so_far.steps) (ap (steps_of_lines batch x) (drop_all i lines past) ∙ steps_none batch x) ∙ ap Ok (append-nil so_far.steps);
      world_is = so_far.world_is;
      shown = so_far.shown;
    }

pub line_fault : {O : Type 0} (Shows : O → List StepTaken → O → Type 0) (batch : ℕ) (w : WorldState) (o : O) (lines : List Line) (i : ℕ) (line : Line) (x : WorldState) (p : O) (e : Refusal) → i < length lines → line ≡ get_or lines i line → SoFar Shows batch w o lines i x p → IsLineFault (outcome_of_line batch x line).answer e → IsScriptFault (steps_of_lines batch w lines) e
line_fault Shows batch w o lines i line x p e lt is so_far (inl memory) = inl memory
line_fault Shows batch w o lines i line x p e lt is so_far (inr over) =
    inr (over.0, sym so_far.left_is ∙ ap (items_before so_far.steps) (ap (steps_of_lines batch x) (next_line lines i line lt is) ∙ steps_over batch x line (drop (i + 1) lines) over.1))
