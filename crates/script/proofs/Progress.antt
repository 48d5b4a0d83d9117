-- The result for lines by that of the first line and the rest.
use Rattle.std.proofs.Common.{◌≡◌, refl, sym, ap, ◌∙◌, ℕ, ◌+◌, ◌⊎◌, inl, inr, Bool, true, false, cond, List, [], ◌∷◌, ◌++◌, map, length, ⊎_elim, arith, Option, Some, None, Result, Ok, Err, append_assoc, append-nil}
use Rattle.std.specs.List.{cons_option, enumerate_from}
use Rattle.std.specs.Option.{option_map, option_map_or, option_to_list}
use Rattle.std.specs.Result.{result_map_both}
use Rattle.std.specs.Str.Lines.{strip_carriage_return}
use Rattle.lane_words.specs.Answers.{Answers}
use Rattle.lane_words.specs.declared.Refusal.{Refusal}
use Rattle.lane_words.specs.declared.Refusal.TheVariants as r
use Rattle.script.specs.Grammar.{lines_from, split_lines}
use Rattle.script.specs.Replay.{parse_action_answer}
use Rattle.script.specs.Replay.{parse_action, answer_of, is_bad, parsed}
use Rattle.script.specs.declared.action.Action.{Action}
use Rattle.script.specs.declared.replay.Line.{Line}
use Rattle.partitioner.specs.declared.topic.Topic.{Topic}

-- lines that are parsed already, before the result for the rest
abbrev pub after : List Line → Result (List Line) Refusal → Result (List Line) Refusal
after front answer = result_map_both (λ lines. front ++ lines) (λ refusal. refusal) answer

pub after-after : (front more : List Line) (answer : Result (List Line) Refusal)
    → after front (after more answer) ≡ after (front ++ more) answer
after-after front more (Ok lines) = ap Ok (sym (append_assoc front more lines))
after-after front more (Err e) = refl

pub lines_from-first : (n : ℕ) (bytes text line rest : List ℕ)
    → split_lines bytes ≡ text ∷ split_lines rest → line ≡ strip_carriage_return text
    → lines_from n bytes ≡ (n, line) ∷ lines_from (n + 1) rest
lines_from-first n bytes text line rest e stripped =
    ap (λ lines. enumerate_from n (map strip_carriage_return lines)) e
    ∙ ap (λ line. (n, line) ∷ lines_from (n + 1) rest) (sym stripped)

-- a line of this number with this action, if any
abbrev pub line_saying : ℕ → Option Action → Option Line
line_saying n action = option_map (λ action. record { number = n; action = action }) action

-- the result for lines with a bad one
abbrev reported : Option (ℕ × List ℕ) → List Line → Result (List Line) Refusal
reported found lines = option_map_or (λ bad. Err (r.BadLine bad.0)) found (Ok lines)

-- a result for lines of which the first is bad or not, and has this action, if any
abbrev answer_by : Bool → ℕ × List ℕ → Option Line → Option (ℕ × List ℕ) → List Line
    → Result (List Line) Refusal
answer_by bad line first found more =
    reported (cond bad (Some line) found) (cons_option first more)

read_first : (bad : Bool) (line : ℕ × List ℕ) (action : Option Action)
    (found : Option (ℕ × List ℕ)) (more : List Line) (x : Option Action)
    → cond bad (Err (r.BadLine line.0)) (Ok action) ≡ Ok x
    → answer_by bad line (line_saying line.0 action) found more
    ≡ after (option_to_list (line_saying line.0 x)) (reported found more)
read_first true line action found more x e = absurd cc
read_first false line None None more None e = refl
read_first false line None (Some bad) more None e = refl
read_first false line (Some parsed) found more None e = absurd cc
read_first false line None found more (Some x) e = absurd cc
read_first false line (Some parsed) None more (Some x) e =
    let same : parsed ≡ x = cc in
    ap (λ action. Ok (record { number = line.0; action = action } ∷ more)) same
read_first false line (Some parsed) (Some bad) more (Some x) e = refl

refused_first : (bad : Bool) (line : ℕ × List ℕ) (action : Option Action) (first : Option Line)
    (found : Option (ℕ × List ℕ)) (more : List Line) (e : Refusal)
    → cond bad (Err (r.BadLine line.0)) (Ok action) ≡ Err e
    → answer_by bad line first found more ≡ Err e
refused_first true line action first found more e h = cc
refused_first false line action first found more e h = absurd cc

pub answer_of-read : (topics : List Topic) (n : ℕ) (text : List ℕ) (rest : List (ℕ × List ℕ))
    (x : Option Action)
    → Answers (parse_action_answer topics (n, text)) (Ok x)
    → answer_of topics ((n, text) ∷ rest)
    ≡ after (option_to_list (line_saying n x)) (answer_of topics rest)
unfolding answer_of parse_action_answer parsed
answer_of-read topics n text rest x (inl e) =
    read_first (is_bad topics text) (n, text) (parse_action topics text) _ _ x (sym e)
answer_of-read topics n text rest x (inr e) = absurd cc

pub answer_of-refused : (topics : List Topic) (n : ℕ) (text : List ℕ)
    (rest : List (ℕ × List ℕ)) (e : Refusal)
    → Answers (parse_action_answer topics (n, text)) (Err e)
    → (answer_of topics ((n, text) ∷ rest) ≡ Err e) ⊎ (e ≡ r.Memory)
unfolding answer_of parse_action_answer
answer_of-refused topics n text rest e (inl h) =
    inl
    (refused_first (is_bad topics text) (n, text) (parse_action topics text)
    (parsed topics (n, text)) _ _ e (sym h))
answer_of-refused topics n text rest e (inr h) = inr cc

pub read-more : (topics : List Topic) (lines : List Line) (whole : Result (List Line) Refusal) (n : ℕ)
    (bytes line rest : List ℕ) (x : Option Action)
    → lines_from n bytes ≡ (n, line) ∷ lines_from (n + 1) rest
    → after lines (answer_of topics (lines_from n bytes)) ≡ whole
    → Answers (parse_action_answer topics (n, line)) (Ok x)
    → after (lines ++ option_to_list (line_saying n x)) (answer_of topics (lines_from (n + 1) rest)) ≡ whole
read-more topics lines whole n bytes line rest x first before parsed =
    let more = option_to_list (line_saying n x) in
    sym (after-after lines more (answer_of topics (lines_from (n + 1) rest)))
    ∙ ap (after lines)
    (sym (ap (answer_of topics) first ∙ answer_of-read topics n line (lines_from (n + 1) rest) x parsed))
    ∙ before

pub read-refused : (topics : List Topic) (lines : List Line) (whole : Result (List Line) Refusal) (n : ℕ)
    (bytes line rest : List ℕ) (e : Refusal)
    → lines_from n bytes ≡ (n, line) ∷ lines_from (n + 1) rest
    → after lines (answer_of topics (lines_from n bytes)) ≡ whole
    → Answers (parse_action_answer topics (n, line)) (Err e) → Answers whole (Err e)
read-refused topics lines whole n bytes line rest e first before refused =
    ⊎_elim
    (λ reported. inl (ap (after lines) (sym (ap (answer_of topics) first ∙ reported)) ∙ before))
    (λ memory. inr (ap Err memory))
    (answer_of-refused topics n line (lines_from (n + 1) rest) e refused)

pub read-all : (topics : List Topic) (lines : List Line) (whole : Result (List Line) Refusal)
    (n : ℕ) (bytes : List ℕ)
    → after lines (answer_of topics (lines_from n bytes)) ≡ whole → length bytes ≡ 0 → Ok lines ≡ whole
unfolding answer_of
read-all topics lines whole n [] before none = ap Ok (sym (append-nil lines)) ∙ before
read-all topics lines whole n (x ∷ xs) before none = absurd (omega arith)
