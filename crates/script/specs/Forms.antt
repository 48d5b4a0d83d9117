-- The written forms of actions.
use Rattle.std.specs.Prelude.{◌≡◌, ℕ, true, List, [], ◌∷◌, ◌++◌, codes, Option, Some, None}
use Rattle.std.specs.List.{slice_get}
use Rattle.partitioner.specs.Name.{is_name}
use Rattle.script.specs.Grammar.{first_word, number_of}
use Rattle.script.specs.Topics.{partition_at}
use Rattle.script.specs.declared.action.Action.{Action}
use Rattle.script.specs.declared.action.Action.TheVariants.{Append, AppendIn, Join, Keep, Return, Rejoin, Sync, Leave, Lose, Poll, Send, Deliver, Unanswered, Settle, Drain}
use Rattle.script.specs.declared.forms.Form.{Form}
use Rattle.script.specs.declared.forms.Form.TheVariants as form
use Rattle.partitioner.specs.declared.topic.Topic.{Topic}

-- a word, a space and a text
infixr 20 ◌⎵◌
abbrev pub ◌⎵◌ : List ℕ → List ℕ → List ℕ
word ⎵ text = word ++ 32 ∷ text

-- a command with a name
abbrev pub IsNamed : List ℕ → List ℕ → List ℕ → Type 0
IsNamed command name line = (is_name name ≡ true) × (line ≡ command ⎵ name)

-- a command with a number
pub record IsNumbered (command : List ℕ) (n : ℕ) (line : List ℕ) : Type 0 where
  pub word : List ℕ
  pub number : number_of word ≡ Some n
  pub line_is : line ≡ command ⎵ word

-- a text after the name of the topic of this index
pub record IsInTopic (topics : List Topic) (i : ℕ) (parsed text : List ℕ) : Type 0 where
  pub topic : Topic
  pub at : slice_get topics i ≡ Some topic
  pub text_is : text ≡ topic.name ⎵ parsed

-- a text in a topic, after its name; without topics, the text alone
abbrev pub IsTextIn : List Topic → Option ℕ → List ℕ → List ℕ → Type 0
IsTextIn topics None parsed text = (topics ≡ []) × (text ≡ parsed)
IsTextIn topics (Some i) parsed text = IsInTopic topics i parsed text

-- append KEY, append TOPIC KEY
pub record IsAppend (topics : List Topic) (topic : Option ℕ) (key line : List ℕ) : Type 0 where
  pub text : List ℕ
  pub parsed : IsTextIn topics topic key text
  pub line_is : line ≡ codes "append" ⎵ text

-- send NAME P, send NAME TOPIC P
pub record IsSend (topics : List Topic) (name : List ℕ) (p : ℕ) (line : List ℕ) : Type 0 where
  pub topic : Option ℕ
  pub number : ℕ
  pub word : List ℕ
  pub text : List ℕ
  pub named : is_name name ≡ true
  pub parsed : IsTextIn topics topic word text
  pub number_is : number_of word ≡ Some number
  pub partition_is : p ≡ partition_at topics topic number
  pub line_is : line ≡ codes "send" ⎵ name ⎵ text

-- poll NAME P N, poll NAME TOPIC P N
pub record IsPoll (topics : List Topic) (name : List ℕ) (p n : ℕ) (line : List ℕ) : Type 0 where
  pub topic : Option ℕ
  pub number : ℕ
  pub word : List ℕ
  pub most : List ℕ
  pub text : List ℕ
  pub named : is_name name ≡ true
  pub parsed : IsTextIn topics topic (word ⎵ most) text
  pub number_is : number_of word ≡ Some number
  pub partition_is : p ≡ partition_at topics topic number
  pub most_is : number_of most ≡ Some n
  pub line_is : line ≡ codes "poll" ⎵ name ⎵ text

-- the line has a form of the action
abbrev pub IsWritten : List Topic → Action → List ℕ → Type 0
IsWritten topics (Append key) line = IsAppend topics None key line
IsWritten topics (AppendIn i key) line = IsAppend topics (Some i) key line
IsWritten topics (Join name) line = IsNamed (codes "join") name line
IsWritten topics (Keep name) line = IsNamed (codes "keep") name line
IsWritten topics (Return name) line = IsNamed (codes "return") name line
IsWritten topics (Rejoin name) line = IsNamed (codes "rejoin") name line
IsWritten topics (Sync name) line = IsNamed (codes "sync") name line
IsWritten topics (Leave name) line = IsNamed (codes "leave") name line
IsWritten topics (Lose name) line = IsNamed (codes "lose") name line
IsWritten topics (Poll name p n) line = IsPoll topics name p n line
IsWritten topics (Send name p) line = IsSend topics name p line
IsWritten topics (Deliver k) line = IsNumbered (codes "deliver") k line
IsWritten topics (Unanswered k) line = IsNumbered (codes "unanswered") k line
IsWritten topics Settle line = line ≡ codes "settle"
IsWritten topics Drain line = line ≡ codes "drain"

-- a form as it is shown, in two parts: with topics the name of one stands between them, unless the
-- second is empty
abbrev pub parts_of : Form → List ℕ × List ℕ
parts_of form.Join = (codes "join NAME", [])
parts_of form.Leave = (codes "leave NAME", [])
parts_of form.Lose = (codes "lose NAME", [])
parts_of form.Keep = (codes "keep NAME", [])
parts_of form.Return = (codes "return NAME", [])
parts_of form.Sync = (codes "sync NAME", [])
parts_of form.Rejoin = (codes "rejoin NAME", [])
parts_of form.Poll = (codes "poll NAME", codes " P N")
parts_of form.Send = (codes "send NAME", codes " P")
parts_of form.Deliver = (codes "deliver C", [])
parts_of form.Unanswered = (codes "unanswered C", [])
parts_of form.Append = (codes "append", codes " KEY")
parts_of form.Settle = (codes "settle", [])
parts_of form.Drain = (codes "drain", [])

-- the first word of a form
abbrev pub word_of : Form → List ℕ
word_of form = first_word (parts_of form).0

-- the form of the lines of an action
abbrev pub form_of : Action → Form
form_of (Append key) = form.Append
form_of (AppendIn i key) = form.Append
form_of (Join name) = form.Join
form_of (Keep name) = form.Keep
form_of (Return name) = form.Return
form_of (Rejoin name) = form.Rejoin
form_of (Sync name) = form.Sync
form_of (Leave name) = form.Leave
form_of (Lose name) = form.Lose
form_of (Poll name p n) = form.Poll
form_of (Send name p) = form.Send
form_of (Deliver k) = form.Deliver
form_of (Unanswered k) = form.Unanswered
form_of Settle = form.Settle
form_of Drain = form.Drain

-- the form is among these
abbrev pub IsAmong : List Form → Form → Type 0
IsAmong forms f = (i : ℕ) × (slice_get forms i ≡ Some f)
