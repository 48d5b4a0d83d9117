-- The grammar of a script: its lines, and their actions.
use Rattle.std.specs.Prelude.{ℕ, ◌+◌, ◌^◌, ◌==◌, ◌&&◌, nat_le, nat_lt, Bool, if◌then◌else◌, List, [], ◌∷◌, length, take, drop, map, codes, Option, Some, None}
use Rattle.std.specs.Char.{is_ascii_digit}
use Rattle.std.specs.List.{enumerate_from, list_all, onto_first, position}
use Rattle.std.specs.Option.{option_and_then, option_map, option_map_or, option_or}
use Rattle.std.specs.Str.{bytes_eq}
use Rattle.std.specs.Str.Lines.{strip_carriage_return}
use Rattle.std.specs.Str.Parse.{digits_value}
use Rattle.partitioner.specs.Name.{is_name}
use Rattle.script.specs.declared.action.Action.{Action}
use Rattle.script.specs.declared.action.Action.TheVariants.{Append, AppendIn, Join, Keep, Return, Rejoin, Sync, Leave, Lose, Poll, Send, Deliver, Unanswered, Settle, Drain}
use Rattle.script.specs.Topics.{partition_at, topic_named}
use Rattle.script.specs.declared.limits.TheConstants.{MOST_DIGITS}
use Rattle.partitioner.specs.declared.topic.Topic.{Topic}

infixl 10 ◌>>=◌
abbrev pub ◌>>=◌ : {A B : Type 0} → Option A → (A → Option B) → Option B
read >>= next = option_and_then next read

abbrev pub is_line_feed : ℕ → Bool
is_line_feed byte = byte == 10

abbrev pub is_space : ℕ → Bool
is_space byte = byte == 32

-- a line feed ends a line, and the last line may lack it
abbrev pub split_lines : List ℕ → List (List ℕ)
split_lines [] = []
split_lines (byte ∷ bytes) =
    if is_line_feed byte then [] ∷ split_lines bytes else onto_first byte (split_lines bytes)

-- the lines, each without a carriage return at its end, and numbered from `first` on
abbrev pub lines_from : ℕ → List ℕ → List (ℕ × List ℕ)
lines_from first bytes = enumerate_from first (map strip_carriage_return (split_lines bytes))

-- the first byte of each line: that of the first is byte `first`, and each other line begins behind
-- the line feed of the one before
abbrev pub line_starts_of : ℕ → List (List ℕ) → List ℕ
line_starts_of first [] = []
line_starts_of first (line ∷ lines) = first ∷ line_starts_of (first + length line + 1) lines

abbrev pub line_starts : ℕ → List ℕ → List ℕ
line_starts first bytes = line_starts_of first (split_lines bytes)

-- the word before the first space, and all bytes after that space
unfoldable pub split_word : List ℕ → Option (List ℕ × List ℕ)
split_word text = option_map (λ i. (take i text, drop (i + 1) text)) (position is_space text)

-- the word before the first space, or all of the text if it has no space
abbrev pub first_word : List ℕ → List ℕ
first_word text = option_map_or (λ parts. parts.0) (split_word text) text

-- 1 to 10 decimal digits, and a value of 32 bits; leading zeros are allowed
abbrev pub is_number : List ℕ → Bool
is_number word =
    list_all is_ascii_digit word
    && nat_le 1 (length word)
    && nat_le (length word) MOST_DIGITS
    && nat_lt (digits_value 10 word) (2 ^ 32)

unfoldable pub number_of : List ℕ → Option ℕ
number_of word = if is_number word then Some (digits_value 10 word) else None

unfoldable pub name_of : List ℕ → Option (List ℕ)
name_of word = if is_name word then Some word else None

-- the index of the topic that is named first, and the text after its name
unfoldable pub topic_before : List Topic → List ℕ → Option (Option ℕ × List ℕ)
topic_before topics text = do
  parts ← split_word text
  topic ← topic_named topics parts.0
  Some (Some topic, parts.1)

-- with topics, the name of one stands before the text; without any, there is no index
unfoldable pub parse_topic : List Topic → List ℕ → Option (Option ℕ × List ℕ)
parse_topic topics text =
    if length topics == 0 then Some (None, text) else topic_before topics text

abbrev pub appended : Option ℕ → List ℕ → Action
appended None key = Append key
appended (Some topic) key = AppendIn topic key

-- append KEY, and with topics append TOPIC KEY: the key is the rest of the line
unfoldable pub append_action : List Topic → List ℕ → Option Action
append_action topics text = do
  parsed ← parse_topic topics text
  Some (appended parsed.0 parsed.1)

-- settle, drain
unfoldable pub nullary_action : List ℕ → Option Action
nullary_action command =
    if bytes_eq command (codes "settle") then Some Settle
    else if bytes_eq command (codes "drain") then Some Drain
    else None

-- join NAME, keep NAME, return NAME, rejoin NAME, sync NAME, leave NAME, lose NAME
unfoldable pub member_action : List ℕ → List ℕ → Option Action
member_action command name =
    if bytes_eq command (codes "join") then Some (Join name)
    else if bytes_eq command (codes "keep") then Some (Keep name)
    else if bytes_eq command (codes "return") then Some (Return name)
    else if bytes_eq command (codes "rejoin") then Some (Rejoin name)
    else if bytes_eq command (codes "sync") then Some (Sync name)
    else if bytes_eq command (codes "leave") then Some (Leave name)
    else if bytes_eq command (codes "lose") then Some (Lose name)
    else None

-- deliver K, unanswered K
unfoldable pub mail_action : List ℕ → ℕ → Option Action
mail_action command commit =
    if bytes_eq command (codes "deliver") then Some (Deliver commit)
    else if bytes_eq command (codes "unanswered") then Some (Unanswered commit)
    else None

-- send NAME P, and with topics send NAME TOPIC P
unfoldable pub send_action : List Topic → List ℕ → Option Action
send_action topics text = do
  parts ← split_word text
  name ← name_of parts.0
  parsed ← parse_topic topics parts.1
  p ← number_of parsed.1
  Some (Send name (partition_at topics parsed.0 p))

-- poll NAME P N, and with topics poll NAME TOPIC P N
unfoldable pub poll_action : List Topic → List ℕ → Option Action
poll_action topics text = do
  parts ← split_word text
  name ← name_of parts.0
  parsed ← parse_topic topics parts.1
  numbers ← split_word parsed.1
  p ← number_of numbers.0
  most ← number_of numbers.1
  Some (Poll name (partition_at topics parsed.0 p) most)

-- a command with one argument: a name or a number
unfoldable pub single_action : List ℕ → List ℕ → Option Action
single_action command argument =
    option_or
    (option_and_then (member_action command) (name_of argument))
    (option_and_then (mail_action command) (number_of argument))

-- a command and the text after it
unfoldable pub command_action : List Topic → List ℕ → List ℕ → Option Action
command_action topics command text =
    if bytes_eq command (codes "append") then append_action topics text
    else if bytes_eq command (codes "send") then send_action topics text
    else if bytes_eq command (codes "poll") then poll_action topics text
    else single_action command text

-- the action of a line, if the line is valid
unfoldable pub action_of : List Topic → List ℕ → Option Action
action_of topics line =
    option_map_or
    (λ parts. command_action topics parts.0 parts.1)
    (split_word line)
    (nullary_action line)
