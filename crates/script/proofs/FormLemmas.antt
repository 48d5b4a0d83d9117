-- A line in a form of an action parses to it.
use Rattle.std.proofs.Common.{◌≡◌, refl, sym, ap, ◌∙◌, ℕ, true, cond, not, List, codes, Option, Some, None}
use Rattle.std.specs.List.{list_all}
use Rattle.std.specs.Option.{option_and_then}
use Rattle.partitioner.specs.Name.{is_name}
use Rattle.script.proofs.Parts.{split-there}
use Rattle.script.proofs.TopicLemmas.{parsed-in}
use Rattle.script.proofs.WordLemmas.{command-word, name-word, number-word}
use Rattle.script.specs.Forms.{◌⎵◌, IsAppend, IsNumbered, IsPoll, IsSend, IsWritten}
use Rattle.script.specs.Grammar.{action_of, append_action, appended, command_action, is_space, mail_action, member_action, name_of, nullary_action, poll_action, send_action, single_action, split_word}
use Rattle.partitioner.specs.Topic.{MayBeTopics}
use Rattle.script.specs.declared.action.Action.{Action}
use Rattle.script.specs.declared.action.Action.TheVariants.{Append, AppendIn, Join, Keep, Return, Rejoin, Sync, Leave, Lose, Poll, Send, Deliver, Unanswered, Settle, Drain}
use Rattle.partitioner.specs.declared.topic.Topic.{Topic}

named : (name : List ℕ) → is_name name ≡ true → name_of name ≡ Some name
unfolding name_of
named name h = ap (λ b. cond b (Some name) None) h

none_then : {A B : Type 0} (f : A → Option B) (o : Option A)
    → ((x : A) → f x ≡ None) → option_and_then f o ≡ None
none_then f None none = refl
none_then f (Some x) none = none x

by_command : (topics : List Topic) (command text line : List ℕ) (action : Action)
    → list_all (λ b. not (is_space b)) command ≡ true → line ≡ command ⎵ text
    → command_action topics command text ≡ Some action → action_of topics line ≡ Some action
unfolding action_of
by_command topics command text line action word is parsed =
    rw (is, split-there command text (command-word command word)) parsed

by_name : (topics : List Topic) (command name line : List ℕ) (action : Action)
    → list_all (λ b. not (is_space b)) command ≡ true
    → command_action topics command name ≡ single_action command name
    → member_action command name ≡ Some action
    → (is_name name ≡ true) × (line ≡ command ⎵ name) → action_of topics line ≡ Some action
unfolding single_action
by_name topics command name line action word single parsed h =
    by_command topics command name line action word h.1
    (single ∙ rw (named name h.0, parsed) refl)

by_number : (topics : List Topic) (command : List ℕ) (n : ℕ) (line : List ℕ) (action : Action)
    → list_all (λ b. not (is_space b)) command ≡ true
    → ((word : List ℕ) → command_action topics command word ≡ single_action command word)
    → ((name : List ℕ) → member_action command name ≡ None)
    → mail_action command n ≡ Some action → IsNumbered command n line
    → action_of topics line ≡ Some action
unfolding single_action
by_number topics command n line action word single none parsed h =
    by_command topics command h.word line action word h.line_is
    (single h.word
    ∙ rw (none_then (member_action command) (name_of h.word) none, h.number, parsed) refl)

by_append : (topics : List Topic) (topic : Option ℕ) (key line : List ℕ) → MayBeTopics topics
    → IsAppend topics topic key line → action_of topics line ≡ Some (appended topic key)
unfolding command_action append_action
by_append topics topic key line valid h =
    by_command topics (codes "append") h.text line (appended topic key) refl h.line_is
    (rw (parsed-in topics topic key h.text valid h.parsed) refl)

by_send : (topics : List Topic) (name : List ℕ) (p : ℕ) (line : List ℕ) → MayBeTopics topics
    → IsSend topics name p line → action_of topics line ≡ Some (Send name p)
unfolding command_action send_action
by_send topics name p line valid h =
    by_command topics (codes "send") (name ⎵ h.text) line (Send name p) refl h.line_is
    (rw (
      split-there name h.text (name-word name h.named),
      named name h.named,
      parsed-in topics h.topic h.word h.text valid h.parsed,
      h.number_is,
    ) (ap (λ p. Some (Send name p)) (sym h.partition_is)))

by_poll : (topics : List Topic) (name : List ℕ) (p n : ℕ) (line : List ℕ) → MayBeTopics topics
    → IsPoll topics name p n line → action_of topics line ≡ Some (Poll name p n)
unfolding command_action poll_action
by_poll topics name p n line valid h =
    by_command topics (codes "poll") (name ⎵ h.text) line (Poll name p n) refl h.line_is
    (rw (
      split-there name h.text (name-word name h.named),
      named name h.named,
      parsed-in topics h.topic (h.word ⎵ h.most) h.text valid h.parsed,
      split-there h.word h.most (number-word h.word h.number h.number_is),
      h.number_is,
      h.most_is,
    ) (ap (λ p. Some (Poll name p n)) (sym h.partition_is)))

pub written_is_read : (topics : List Topic) (action : Action) (line : List ℕ) → MayBeTopics topics
    → IsWritten topics action line → action_of topics line ≡ Some action
unfolding action_of nullary_action command_action mail_action member_action split_word
written_is_read topics (Append key) line valid h = by_append topics None key line valid h
written_is_read topics (AppendIn i key) line valid h =
    by_append topics (Some i) key line valid h
written_is_read topics (Join name) line valid h =
    by_name topics (codes "join") name line (Join name) refl refl refl h
written_is_read topics (Keep name) line valid h =
    by_name topics (codes "keep") name line (Keep name) refl refl refl h
written_is_read topics (Return name) line valid h =
    by_name topics (codes "return") name line (Return name) refl refl refl h
written_is_read topics (Rejoin name) line valid h =
    by_name topics (codes "rejoin") name line (Rejoin name) refl refl refl h
written_is_read topics (Sync name) line valid h =
    by_name topics (codes "sync") name line (Sync name) refl refl refl h
written_is_read topics (Leave name) line valid h =
    by_name topics (codes "leave") name line (Leave name) refl refl refl h
written_is_read topics (Lose name) line valid h =
    by_name topics (codes "lose") name line (Lose name) refl refl refl h
written_is_read topics (Poll name p n) line valid h = by_poll topics name p n line valid h
written_is_read topics (Send name p) line valid h = by_send topics name p line valid h
written_is_read topics (Deliver k) line valid h =
    by_number topics (codes "deliver") k line (Deliver k) refl (λ word. refl) (λ name. refl) refl h
written_is_read topics (Unanswered k) line valid h =
    by_number topics (codes "unanswered") k line (Unanswered k) refl (λ word. refl) (λ name. refl)
    refl h
written_is_read topics Settle line valid h = ap (action_of topics) h
written_is_read topics Drain line valid h = ap (action_of topics) h
