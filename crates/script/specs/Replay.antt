-- The result of parsing a script.
use Rattle.std.specs.Prelude.{ℕ, ◌==◌, ◌&&◌, ◌||◌, not, nat_lt, Bool, if◌then◌else◌, List, [], length, slice_index, Option, None, Result, Ok, Err, Vec}
use Rattle.std.specs.Global.{Global}
use Rattle.std.specs.List.{filter_map, find}
use Rattle.std.specs.Option.{is_none, option_map, option_map_or}
use Rattle.std.specs.Result.{result_map_both}
use Rattle.lane_words.specs.declared.Refusal.{Refusal}
use Rattle.lane_words.specs.declared.Refusal.TheVariants as r
use Rattle.script.specs.Grammar.{action_of, lines_from}
use Rattle.script.specs.declared.action.Action.{Action}
use Rattle.script.specs.declared.limits.TheConstants.{LONGEST_LINE}
use Rattle.script.specs.declared.replay.Line.{Line}
use Rattle.partitioner.specs.declared.topic.Topic.{Topic}

-- an empty line, or a comment, which begins with '#'
abbrev pub is_silent : List ℕ → Bool
is_silent line = (length line == 0) || (slice_index line 0 == 35)

-- a line that is too long, even a comment, or that is neither silent nor has an action
unfoldable pub is_bad : List Topic → List ℕ → Bool
is_bad topics line =
    nat_lt LONGEST_LINE (length line) || (not (is_silent line) && is_none (action_of topics line))

-- the action of a line, if it is not silent
unfoldable pub parse_action : List Topic → List ℕ → Option Action
parse_action topics line = if is_silent line then None else action_of topics line

-- a bad line is refused, and any other has its action, if any
unfoldable pub parse_action_answer : List Topic → ℕ × List ℕ → Result (Option Action) Refusal
parse_action_answer topics (number, line) =
    if is_bad topics line then Err (r.BadLine number) else Ok (parse_action topics line)

-- the action of a line, with its number
unfoldable pub parsed : List Topic → ℕ × List ℕ → Option Line
parsed topics (number, line) =
    option_map (λ action. record { number = number; action = action }) (parse_action topics line)

-- the first bad line, or if none is bad, the lines with an action
unfoldable pub answer_of : List Topic → List (ℕ × List ℕ) → Result (List Line) Refusal
answer_of topics lines =
    option_map_or
    (λ bad. Err (r.BadLine bad.0))
    (find (λ line. is_bad topics line.1) lines)
    (Ok (filter_map (parsed topics) lines))

-- the lines of a script are numbered from 1
abbrev pub read_answer_in : List Topic → List ℕ → Result (List Line) Refusal
read_answer_in topics bytes = answer_of topics (lines_from 1 bytes)

-- a script without topics
abbrev pub read_answer : List ℕ → Result (List Line) Refusal
read_answer bytes = read_answer_in [] bytes

-- a result, seen as a list of lines
abbrev pub lines_seen : Result (Vec Line Global) Refusal → Result (List Line) Refusal
lines_seen answer = result_map_both (λ lines. lines.items) (λ refusal. refusal) answer
