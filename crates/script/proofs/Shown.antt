-- The forms that are shown are those of all actions.
use Rattle.std.proofs.Common.{◌≡◌, ℕ, List, true, not, codes, refl, take}
use Rattle.std.specs.List.{list_all}
use Rattle.std.specs.Prelude.{IfSome}
use Rattle.partitioner.specs.declared.topic.Topic.{Topic}
use Rattle.script.proofs.Parts.{split-there}
use Rattle.script.proofs.WordLemmas.{command-word}
use Rattle.script.specs.Forms.{◌⎵◌, IsAmong, IsWritten, form_of, word_of}
use Rattle.script.specs.Grammar.{first_word, is_space, split_word}
use Rattle.script.specs.Plan.{change_of}
use Rattle.script.specs.declared.action.Action.{Action}
use Rattle.script.specs.declared.action.Action.TheVariants as a
use Rattle.script.specs.declared.forms.TheConstants.{FORMS, PLAN_FORMS}

pub action_is_shown : (action : Action) → IsAmong FORMS (form_of action)
action_is_shown (a.Append key) = (11, refl)
action_is_shown (a.AppendIn i key) = (11, refl)
action_is_shown (a.Join name) = (0, refl)
action_is_shown (a.Keep name) = (3, refl)
action_is_shown (a.Return name) = (4, refl)
action_is_shown (a.Rejoin name) = (6, refl)
action_is_shown (a.Sync name) = (5, refl)
action_is_shown (a.Leave name) = (1, refl)
action_is_shown (a.Lose name) = (2, refl)
action_is_shown (a.Poll name p n) = (7, refl)
action_is_shown (a.Send name p) = (8, refl)
action_is_shown (a.Deliver k) = (9, refl)
action_is_shown (a.Unanswered k) = (10, refl)
action_is_shown a.Settle = (12, refl)
action_is_shown a.Drain = (13, refl)

pub change_is_shown : (action : Action) → IfSome (change_of action) (λ change. IsAmong (take PLAN_FORMS FORMS) (form_of action))
unfolding change_of
change_is_shown (a.Append key) = tt
change_is_shown (a.AppendIn i key) = tt
change_is_shown (a.Join name) = (0, refl)
change_is_shown (a.Keep name) = tt
change_is_shown (a.Return name) = tt
change_is_shown (a.Rejoin name) = tt
change_is_shown (a.Sync name) = tt
change_is_shown (a.Leave name) = (1, refl)
change_is_shown (a.Lose name) = (2, refl)
change_is_shown (a.Poll name p n) = tt
change_is_shown (a.Send name p) = tt
change_is_shown (a.Deliver k) = tt
change_is_shown (a.Unanswered k) = tt
change_is_shown a.Settle = tt
change_is_shown a.Drain = tt

first-of : (command text line : List ℕ) → list_all (λ b. not (is_space b)) command ≡ true → line ≡ command ⎵ text → first_word line ≡ command
first-of command text line word is = rw (is, split-there command text (command-word command word)) refl

pub begins_with_form : (topics : List Topic) (action : Action) (line : List ℕ) → IsWritten topics action line → first_word line ≡ word_of (form_of action)
unfolding split_word
begins_with_form topics (a.Append key) line w = first-of (codes "append") w.text line refl w.line_is
begins_with_form topics (a.AppendIn i key) line w = first-of (codes "append") w.text line refl w.line_is
begins_with_form topics (a.Join name) line w = first-of (codes "join") name line refl w.1
begins_with_form topics (a.Keep name) line w = first-of (codes "keep") name line refl w.1
begins_with_form topics (a.Return name) line w = first-of (codes "return") name line refl w.1
begins_with_form topics (a.Rejoin name) line w = first-of (codes "rejoin") name line refl w.1
begins_with_form topics (a.Sync name) line w = first-of (codes "sync") name line refl w.1
begins_with_form topics (a.Leave name) line w = first-of (codes "leave") name line refl w.1
begins_with_form topics (a.Lose name) line w = first-of (codes "lose") name line refl w.1
begins_with_form topics (a.Poll name p n) line w = first-of (codes "poll") _ line refl w.line_is
begins_with_form topics (a.Send name p) line w = first-of (codes "send") _ line refl w.line_is
begins_with_form topics (a.Deliver k) line w = first-of (codes "deliver") w.word line refl w.line_is
begins_with_form topics (a.Unanswered k) line w = first-of (codes "unanswered") w.word line refl w.line_is
begins_with_form topics a.Settle line w = rw w refl
begins_with_form topics a.Drain line w = rw w refl
