-- The lines of a script or a plan, one by one.
use Rattle.std.proofs.Common.{◌≡◌, ◌∙◌, ◌++◌, ℕ, List, [], ◌∷◌, Bool, true, false, Option, Some, None, ap, refl, inl, inr, length}
use Rattle.std.specs.Prelude.{◌||◌, not, Ok, Err, codes, if◌then◌else◌, zip}
use Rattle.std.specs.List.{cons_option}
use Rattle.std.specs.Option.{option_to_list}
use Rattle.std.proofs.lemmas.List.{nil_from_length}
use Rattle.lane_words.specs.Answers.{Answers}
use Rattle.lane_words.specs.declared.Refusal.{Refusal}
use Rattle.lane_words.specs.declared.Refusal.TheVariants as r
use Rattle.partitioner.specs.declared.topic.Topic.{Topic}
use Rattle.script.specs.Grammar.{line_starts, lines_from}
use Rattle.script.specs.Plan.{Roster, behind, change_fault, entered, is_allowed, is_anybody_left, is_no_plan_line, line_fault, parse_change, parse_change_answer, taken}
use Rattle.script.specs.Replay.{is_bad, parse_action, parse_action_answer}
use Rattle.script.specs.declared.action.Action.{Action}
use Rattle.script.specs.declared.plan.Change.{Change}
use Rattle.check_report.specs.Findings.{Finding}
use Rattle.check_report.specs.ScriptFindings.{ScriptLine, behind_line, change_words, found_in, line_finding, plan_finding, plan_findings_from, plan_words, unread_in_plan, unread_in_script}

-- ---- lines of a script
pub read-line : (topics : List Topic) (number : ℕ) (line : List ℕ) (x : Option Action) → Answers (parse_action_answer topics (number, line)) (Ok x) → is_bad topics line ≡ false
unfolding parse_action_answer
read-line topics number line x answer = go (is_bad topics line) answer
  where
    go : (b : Bool) → Answers (if b then Err (r.BadLine number) else Ok (parse_action topics line)) (Ok x) → b ≡ false
    go true (inl e) = absurd (cc e)
    go true (inr e) = absurd (cc e)
    go false answer = refl

pub bad-line : (topics : List Topic) (number n : ℕ) (line : List ℕ) → Answers (parse_action_answer topics (number, line)) (Err (r.BadLine n)) → is_bad topics line ≡ true
unfolding parse_action_answer
bad-line topics number n line answer = go (is_bad topics line) answer
  where
    go : (b : Bool) → Answers (if b then Err (r.BadLine number) else Ok (parse_action topics line)) (Err (r.BadLine n)) → b ≡ true
    go true answer = refl
    go false (inl e) = absurd (cc e)
    go false (inr e) = absurd (cc e)

pub finding-bad : (topics : List Topic) (line : ScriptLine) → is_bad topics line.1.1 ≡ true → line_finding topics line ≡ Some (found_in line (r.BadLine line.1.0) (unread_in_script topics line.1.1))
unfolding line_finding
finding-bad topics line e = rw e refl

pub finding-none : (topics : List Topic) (line : ScriptLine) → is_bad topics line.1.1 ≡ false → line_finding topics line ≡ None
unfolding line_finding
finding-none topics line e = rw e refl

-- ---- lines of a plan
pub read-change : (number : ℕ) (line : List ℕ) (x : Option Change) → Answers (parse_change_answer (number, line)) (Ok x) → (is_no_plan_line line ≡ false) × (parse_change line ≡ x)
unfolding parse_change_answer
read-change number line x answer = go (is_no_plan_line line) answer
  where
    go : (b : Bool) → Answers (if b then Err (r.BadLine number) else Ok (parse_change line)) (Ok x) → (b ≡ false) × (parse_change line ≡ x)
    go true (inl e) = absurd (cc e)
    go true (inr e) = absurd (cc e)
    go false (inl e) = (refl, cc e)
    go false (inr e) = absurd (cc e)

pub unread-change : (number n : ℕ) (line : List ℕ) → Answers (parse_change_answer (number, line)) (Err (r.BadLine n)) → (is_no_plan_line line ≡ true) × (number ≡ n)
unfolding parse_change_answer
unread-change number n line answer = go (is_no_plan_line line) answer
  where
    go : (b : Bool) → Answers (if b then Err (r.BadLine number) else Ok (parse_change line)) (Err (r.BadLine n)) → (b ≡ true) × (number ≡ n)
    go true (inl e) = (refl, cc e)
    go true (inr e) = absurd (cc e)
    go false (inl e) = absurd (cc e)
    go false (inr e) = absurd (cc e)

plan-unread-at : (before : Roster) (line : ScriptLine) → is_no_plan_line line.1.1 ≡ true → plan_finding before line ≡ Some (found_in line (r.BadLine line.1.0) (unread_in_plan line.1.1))
unfolding plan_finding plan_words line_fault
plan-unread-at before line e = rw e (rw e refl)

pub plan-unread : (before : Roster) (line : ScriptLine) (n : ℕ) → is_no_plan_line line.1.1 ≡ true → line.1.0 ≡ n → plan_finding before line ≡ Some (found_in line (r.BadLine n) (unread_in_plan line.1.1))
plan-unread before line n e is = plan-unread-at before line e ∙ ap (λ m. Some (found_in line (r.BadLine m) (unread_in_plan line.1.1))) is

pub plan-silent : (before : Roster) (line : ScriptLine) → is_no_plan_line line.1.1 ≡ false → parse_change line.1.1 ≡ None → plan_finding before line ≡ None
unfolding plan_finding plan_words line_fault
plan-silent before line e none = rw (e, none) refl

pub plan-fits : (before : Roster) (line : ScriptLine) (change : Change) → is_no_plan_line line.1.1 ≡ false → parse_change line.1.1 ≡ Some change → change_fault line.1.0 before change ≡ None → plan_finding before line ≡ None
unfolding plan_finding plan_words line_fault
plan-fits before line change e is fits = rw (e, is, fits) refl

pub plan-refused : (before : Roster) (line : ScriptLine) (change : Change) (n : ℕ) → is_no_plan_line line.1.1 ≡ false → parse_change line.1.1 ≡ Some change → change_fault line.1.0 before change ≡ Some (r.BadLine n)
    → plan_finding before line ≡ Some (found_in line (r.BadLine n) (change_words before change))
unfolding plan_finding plan_words line_fault
plan-refused before line change n e is refused = rw (e, is, refused) (rw (e, is) refl)

pub plan-nobody : (before : Roster) (line : ScriptLine) (change : Change) (n : ℕ) → is_no_plan_line line.1.1 ≡ false → parse_change line.1.1 ≡ Some change → change_fault line.1.0 before change ≡ Some (r.NobodyLeft n)
    → plan_finding before line ≡ Some (found_in line (r.NobodyLeft n) (codes "nobody is present after this line"))
unfolding plan_finding plan_words line_fault
plan-nobody before line change n e is nobody = rw (e, is, nobody) refl

pub behind-unread : (before : Roster) (line : List ℕ) → is_no_plan_line line ≡ true → behind_line before line ≡ before
unfolding behind_line
behind-unread before line e = rw e refl

pub behind-silent : (before : Roster) (line : List ℕ) → is_no_plan_line line ≡ false → parse_change line ≡ None → behind_line before line ≡ before
unfolding behind_line
behind-silent before line e none = rw (e, none) refl

pub behind-change : (before : Roster) (line : List ℕ) (change : Change) → is_no_plan_line line ≡ false → parse_change line ≡ Some change → behind_line before line ≡ behind before change
unfolding behind_line
behind-change before line change e is = rw (e, is) refl

-- ---- what a roster takes
pub taken-ok : (fault : Option Refusal) (u : Unit {0}) → Answers (taken fault) (Ok u) → fault ≡ None
taken-ok None u answer = refl
taken-ok (Some f) u (inl e) = absurd (cc e)
taken-ok (Some f) u (inr e) = absurd (cc e)

pub taken-bad : (fault : Option Refusal) (n : ℕ) → Answers {T = Unit {0}} (taken fault) (Err (r.BadLine n)) → fault ≡ Some (r.BadLine n)
taken-bad None n (inl e) = absurd (cc e)
taken-bad None n (inr e) = absurd (cc e)
taken-bad (Some f) n (inl e) = cc e
taken-bad (Some f) n (inr e) = absurd (cc e)

pub taken-nobody : (fault : Option Refusal) (n : ℕ) → Answers {T = Unit {0}} (taken fault) (Err (r.NobodyLeft n)) → fault ≡ Some (r.NobodyLeft n)
taken-nobody None n (inl e) = absurd (cc e)
taken-nobody None n (inr e) = absurd (cc e)
taken-nobody (Some f) n (inl e) = cc e
taken-nobody (Some f) n (inr e) = absurd (cc e)

pub refused-same : (number n : ℕ) (before : Roster) (change : Change) → change_fault number before change ≡ Some (r.BadLine n) → behind before change ≡ before
unfolding change_fault
refused-same number n before change e = go (is_allowed before change) (is_anybody_left (entered before change)) e
  where
    go : (b d : Bool) → (if not b then Some (r.BadLine number) else if not d then Some (r.NobodyLeft number) else None) ≡ Some (r.BadLine n) → (if b then entered before change else before) ≡ before
    go true true e = absurd (cc e)
    go true false e = absurd (cc e)
    go false d e = refl

-- ---- line by line
pub zipped : {A B : Type 0} (xs xs2 : List A) (ys ys2 : List B) (x : A) (y : B) → xs ≡ x ∷ xs2 → ys ≡ y ∷ ys2 → zip xs ys ≡ (x, y) ∷ zip xs2 ys2
zipped xs xs2 ys ys2 x y h k = rw (h, k) refl

pub plan-next : (before : Roster) (lines lines2 : List ScriptLine) (line : ScriptLine) → lines ≡ line ∷ lines2
    → plan_findings_from before lines ≡ cons_option (plan_finding before line) (plan_findings_from (behind_line before line.1.1) lines2)
unfolding plan_findings_from
plan-next before lines lines2 line is = rw is refl

pub none_told : (found : List Finding) (next : Option Finding) → found ++ option_to_list next ≡ [] → (found ≡ []) × (next ≡ None)
none_told [] None e = (refl, refl)
none_told [] (Some f) e = absurd (cc e)
none_told (f ∷ fs) next e = absurd (cc e)

pub or-next : (a b d : Bool) → ((a || b) || d) ≡ (a || (b || d))
or-next true b d = refl
or-next false b d = refl

pub plan-end : (before : Roster) (byte n : ℕ) (rest : List ℕ) → length rest ≡ 0 → plan_findings_from before (zip (line_starts byte rest) (lines_from n rest)) ≡ []
unfolding plan_findings_from
plan-end before byte n rest none = rw (nil_from_length rest none) refl
