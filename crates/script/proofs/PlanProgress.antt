-- The result of a plan by its first line and the rest.
use Rattle.std.proofs.Common.{◌≡◌, ◌≤◌, refl, sym, ap, ◌∙◌, ℕ, ◌+◌, ◌⊎◌, inl, inr, Bool, true, false, cond, not, ltb, ◌&&◌, ◌||◌, List, [], ◌∷◌, ◌++◌, length, ⊎_elim, arith, Option, Some, None, Result, Ok, Err, append_assoc, append-nil}
use Rattle.std.specs.Prelude.{◌==◌}
use Rattle.std.specs.List.{cons_option}
use Rattle.std.specs.Option.{is_none, option_and_then, option_map_or, option_or, option_to_list}
use Rattle.lane_words.specs.Answers.{Answers}
use Rattle.lane_words.specs.declared.Refusal.{Refusal}
use Rattle.lane_words.specs.declared.Refusal.TheVariants as r
use Rattle.script.specs.Grammar.{action_of, lines_from}
use Rattle.script.specs.Plan.{change_fault, change_of, changes_in, first_fault, is_no_plan_line, line_fault, parse_change, parse_change_answer, roster_of, taken, with_a_line}
use Rattle.script.specs.Replay.{parse_action_answer}
use Rattle.script.specs.Replay.{parse_action, is_bad, is_silent}
use Rattle.script.specs.declared.action.Action.{Action}
use Rattle.script.specs.declared.limits.TheConstants.{LONGEST_LINE}
use Rattle.script.specs.declared.plan.Change.{Change}
use borrow.Author.Tests.{eqb-true}

-- ---- the change of a line

-- the result for an action, if there is one
abbrev read_as : ℕ → Option Action → Result (Option Change) Refusal
read_as n None = Ok None
read_as n (Some action) = option_map_or (λ c. Ok (Some c)) (change_of action) (Err (r.BadLine n))

one_read : (n : ℕ) (change : Option Change)
    → cond (is_none change) (Err (r.BadLine n)) (Ok change)
    ≡ option_map_or (λ c. Ok (Some c)) change (Err (r.BadLine n))
one_read n None = refl
one_read n (Some c) = refl

-- a line that is too long or not, silent or not, with this action
abbrev action_by : Bool → Option Action → Option Action
action_by silent action = cond silent None action

abbrev line_by : ℕ → Bool → Bool → Option Action → Result (Option Action) Refusal
line_by n long silent action =
    cond (long || (not silent && is_none action)) (Err (r.BadLine n)) (Ok (action_by silent action))

abbrev parsed_by : ℕ → Bool → Bool → Option Action → Result (Option Change) Refusal
parsed_by n long silent action =
    cond (long || (not silent && is_none (option_and_then change_of (action_by silent action))))
    (Err (r.BadLine n)) (Ok (option_and_then change_of (action_by silent action)))

read_by : (n : ℕ) (long silent : Bool) (action x : Option Action)
    → line_by n long silent action ≡ Ok x → parsed_by n long silent action ≡ read_as n x
read_by n true silent action x e = absurd cc
read_by n false true action None e = refl
read_by n false true action (Some x) e = absurd cc
read_by n false false None x e = absurd cc
read_by n false false (Some a) None e = absurd cc
read_by n false false (Some a) (Some x) e =
    let same : a ≡ x = cc in
    one_read n (change_of a) ∙ ap (λ a. read_as n (Some a)) same

unread_by : (n : ℕ) (long silent : Bool) (action : Option Action) (e : Refusal)
    → line_by n long silent action ≡ Err e → parsed_by n long silent action ≡ Err e
unread_by n true silent action e h = cc
unread_by n false true action e h = absurd cc
unread_by n false false None e h = cc
unread_by n false false (Some a) e h = absurd cc

pub parsed-read : (n : ℕ) (line : List ℕ) (x : Option Action)
    → Answers (parse_action_answer [] (n, line)) (Ok x) → parse_change_answer (n, line) ≡ read_as n x
unfolding parse_action parse_change is_bad is_no_plan_line parse_action_answer parse_change_answer
parsed-read n line x (inl e) =
    read_by n (ltb LONGEST_LINE (length line)) (is_silent line) (action_of [] line) x (sym e)
parsed-read n line x (inr e) = absurd cc

pub parsed-refused : (n : ℕ) (line : List ℕ) (e : Refusal)
    → Answers (parse_action_answer [] (n, line)) (Err e) → Answers (parse_change_answer (n, line)) (Err e)
unfolding parse_action parse_change is_bad is_no_plan_line parse_action_answer parse_change_answer
parsed-refused n line e (inl h) =
    inl
    (sym (unread_by n (ltb LONGEST_LINE (length line)) (is_silent line) (action_of [] line) e (sym h)))
parsed-refused n line e (inr h) = inr cc

-- ---- the rest of a plan

-- the answer to lines that follow these changes
abbrev pub plan_after : List Change → List (ℕ × List ℕ) → Result (List Change) Refusal
plan_after before lines =
    option_map_or Err (first_fault before lines) (with_a_line (before ++ changes_in lines))

-- the same if the first line is one of a plan or not, with this change, if any
abbrev plan_by : List Change → ℕ → Bool → Option Change → List (ℕ × List ℕ)
    → Result (List Change) Refusal
plan_by before n bad change lines =
    option_map_or Err
    (option_or
    (cond bad (Some (r.BadLine n)) (option_and_then (change_fault n (roster_of before)) change))
    (first_fault (before ++ option_to_list change) lines))
    (with_a_line (before ++ cons_option change (changes_in lines)))

silent_by : (before : List Change) (n : ℕ) (bad : Bool) (change : Option Change)
    (lines : List (ℕ × List ℕ))
    → cond bad (Err (r.BadLine n)) (Ok change) ≡ Ok None
    → plan_by before n bad change lines ≡ plan_after before lines
silent_by before n true change lines e = absurd cc
silent_by before n false (Some c) lines e = absurd cc
silent_by before n false None lines e = rw (append-nil before) refl

refused_by : (before : List Change) (n : ℕ) (bad : Bool) (change : Option Change)
    (lines : List (ℕ × List ℕ)) (e : Refusal)
    → cond bad (Err (r.BadLine n)) (Ok change) ≡ Err e
    → plan_by before n bad change lines ≡ Err e
refused_by before n true change lines e h = cc
refused_by before n false change lines e h = absurd cc

fault_by : (before : List Change) (n : ℕ) (bad : Bool) (change : Option Change) (c : Change)
    (lines : List (ℕ × List ℕ)) (fault : Option Refusal)
    → cond bad (Err (r.BadLine n)) (Ok change) ≡ Ok (Some c)
    → change_fault n (roster_of before) c ≡ fault
    → plan_by before n bad change lines
    ≡ option_map_or Err fault (plan_after (before ++ c ∷ []) lines)
fault_by before n true change c lines fault e f = absurd cc
fault_by before n false None c lines fault e f = absurd cc
fault_by before n false (Some x) c lines None e f =
    let same : x ≡ c = cc in
    rw (same, f, append_assoc before (c ∷ []) (changes_in lines)) refl
fault_by before n false (Some x) c lines (Some bad) e f =
    let same : x ≡ c = cc in
    rw (same, f) refl

no_fault : (fault : Option Refusal) → Answers (taken fault) (Ok tt) → fault ≡ None
no_fault None h = refl
no_fault (Some e) (inl h) = absurd cc
no_fault (Some e) (inr h) = absurd cc

some_fault : (fault : Option Refusal) (e : Refusal)
    → Answers (taken fault) (Err e) → (fault ≡ Some e) ⊎ (e ≡ r.Memory)
some_fault None e (inl h) = absurd cc
some_fault None e (inr h) = inr cc
some_fault (Some x) e (inl h) = inl cc
some_fault (Some x) e (inr h) = inr cc

pub not_refused : (n : ℕ) (before : List Change) (c : Change)
    → Answers (taken (change_fault n (roster_of before) c)) (Ok tt)
    → change_fault n (roster_of before) c ≡ None
not_refused n before c h = no_fault (change_fault n (roster_of before) c) h

is_parsed : {x y : Result (Option Change) Refusal} {s : Option Change}
    → y ≡ Ok s → Answers x y → x ≡ Ok s
is_parsed e (inl h) = sym h ∙ e
is_parsed e (inr h) = absurd cc

pub plan-silent : (before : List Change) (whole : Result (List Change) Refusal) (n : ℕ)
    (bytes line rest : List ℕ)
    → lines_from n bytes ≡ (n, line) ∷ lines_from (n + 1) rest
    → plan_after before (lines_from n bytes) ≡ whole
    → Answers (parse_change_answer (n, line)) (Ok None)
    → plan_after before (lines_from (n + 1) rest) ≡ whole
unfolding first_fault line_fault parse_change_answer
plan-silent before whole n bytes line rest first answer parsed =
    sym
    (ap (plan_after before) first
    ∙ silent_by before n (is_no_plan_line line) (parse_change line) (lines_from (n + 1) rest)
    (is_parsed refl parsed))
    ∙ answer

pub plan-refused : (before : List Change) (whole : Result (List Change) Refusal) (n : ℕ)
    (bytes line rest : List ℕ) (e : Refusal)
    → lines_from n bytes ≡ (n, line) ∷ lines_from (n + 1) rest
    → plan_after before (lines_from n bytes) ≡ whole
    → Answers (parse_change_answer (n, line)) (Err e) → Answers whole (Err e)
unfolding first_fault line_fault parse_change_answer
plan-refused before whole n bytes line rest e first answer (inl h) =
    inl
    (sym
    (refused_by before n (is_no_plan_line line) (parse_change line) (lines_from (n + 1) rest) e
    (sym h))
    ∙ sym (ap (plan_after before) first)
    ∙ answer)
plan-refused before whole n bytes line rest e first answer (inr h) = inr cc

plan_with : (before : List Change) (whole : Result (List Change) Refusal) (n : ℕ)
    (bytes line rest : List ℕ) (c : Change) (fault : Option Refusal)
    → lines_from n bytes ≡ (n, line) ∷ lines_from (n + 1) rest
    → plan_after before (lines_from n bytes) ≡ whole
    → Answers (parse_change_answer (n, line)) (Ok (Some c))
    → change_fault n (roster_of before) c ≡ fault
    → option_map_or Err fault (plan_after (before ++ c ∷ []) (lines_from (n + 1) rest)) ≡ whole
unfolding first_fault line_fault parse_change_answer
plan_with before whole n bytes line rest c fault first answer parsed is =
    sym
    (ap (plan_after before) first
    ∙ fault_by before n (is_no_plan_line line) (parse_change line) c (lines_from (n + 1) rest) fault
    (is_parsed refl parsed) is)
    ∙ answer

pub plan-accepted : (before : List Change) (whole : Result (List Change) Refusal) (n : ℕ)
    (bytes line rest : List ℕ) (c : Change)
    → lines_from n bytes ≡ (n, line) ∷ lines_from (n + 1) rest
    → plan_after before (lines_from n bytes) ≡ whole
    → Answers (parse_change_answer (n, line)) (Ok (Some c))
    → Answers (taken (change_fault n (roster_of before) c)) (Ok tt)
    → plan_after (before ++ c ∷ []) (lines_from (n + 1) rest) ≡ whole
plan-accepted before whole n bytes line rest c first answer parsed h =
    plan_with before whole n bytes line rest c None first answer parsed (not_refused n before c h)

pub plan-fault : (before : List Change) (whole : Result (List Change) Refusal) (n : ℕ)
    (bytes line rest : List ℕ) (c : Change) (e : Refusal)
    → lines_from n bytes ≡ (n, line) ∷ lines_from (n + 1) rest
    → plan_after before (lines_from n bytes) ≡ whole
    → Answers (parse_change_answer (n, line)) (Ok (Some c))
    → Answers (taken (change_fault n (roster_of before) c)) (Err e)
    → Answers whole (Err e)
plan-fault before whole n bytes line rest c e first answer parsed h =
    ⊎_elim
    (λ is. inl (plan_with before whole n bytes line rest c (Some e) first answer parsed is))
    (λ memory. inr (ap Err memory))
    (some_fault (change_fault n (roster_of before) c) e h)

pub plan-all : (before : List Change) (whole : Result (List Change) Refusal) (n : ℕ)
    (bytes : List ℕ)
    → plan_after before (lines_from n bytes) ≡ whole → length bytes ≡ 0
    → with_a_line before ≡ whole
unfolding first_fault
plan-all before whole n [] answer none = ap with_a_line (sym (append-nil before)) ∙ answer
plan-all before whole n (x ∷ xs) answer none = absurd (omega arith)

pub without_a_line : (before : List Change) → length before ≡ 0
    → with_a_line before ≡ Err (r.NobodyLeft 0)
unfolding with_a_line
without_a_line [] none = refl
without_a_line (c ∷ cs) none = absurd (omega arith)

pub with_lines : (before : List Change) → 1 ≤ length before → with_a_line before ≡ Ok before
unfolding with_a_line
with_lines [] some = absurd (omega arith)
with_lines (c ∷ cs) some = at (length (c ∷ cs) == 0) refl
  where
    at : (none : Bool) → (length (c ∷ cs) == 0) ≡ none
        → cond none (Err (r.NobodyLeft 0)) (Ok (c ∷ cs)) ≡ Ok (c ∷ cs)
    at true e = let none = eqb-true (length (c ∷ cs)) 0 e in absurd (omega arith)
    at false e = refl
