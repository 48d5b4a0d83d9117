-- Plans, and the result of parsing a plan.
use Rattle.std.specs.Prelude.{◌≡◌, ℕ, ◌+◌, ◌<◌, ◌≤◌, ◌==◌, ◌&&◌, ◌||◌, not, nat_lt, Bool, true, if◌then◌else◌, List, [], ◌∷◌, ◌++◌, length, take, Option, Some, None, Result, Ok, Err}
use Rattle.std.specs.List.{filter_map, fold, list_any, slice_get}
use Rattle.std.specs.Option.{is_none, option_map_or, option_or, option_to_list}
use Rattle.std.specs.Str.{bytes_eq}
use Rattle.lane_words.specs.declared.Refusal.{Refusal}
use Rattle.lane_words.specs.declared.Refusal.TheVariants as r
use Rattle.lane_words.specs.declared.limits.TheConstants.{MOST_MEMBERS}
use Rattle.script.specs.Grammar.{◌>>=◌, lines_from}
use Rattle.script.specs.Replay.{parse_action, is_silent}
use Rattle.script.specs.declared.action.Action.{Action}
use Rattle.script.specs.declared.action.Action.TheVariants as a
use Rattle.script.specs.declared.limits.TheConstants.{LONGEST_LINE}
use Rattle.script.specs.declared.plan.Change.{Change}
use Rattle.script.specs.declared.plan.Change.TheVariants.{Join, Leave, Lose}

-- the names that have joined so far, in order, and those of them that are gone
pub record Roster : Type 0 where
  pub joined : List (List ℕ)
  pub gone : List (List ℕ)

abbrev pub nobody_yet : Roster
nobody_yet = record { joined = []; gone = [] }

-- a name is among these
abbrev pub is_among : List (List ℕ) → List ℕ → Bool
is_among names name = list_any (λ other. bytes_eq other name) names

-- a name that joined and is not gone
abbrev pub is_there : Roster → List ℕ → Bool
is_there roster name = is_among roster.joined name && not (is_among roster.gone name)

-- a join of a name that was not used, while there are fewer than `MOST_MEMBERS`; a leave or a loss
-- of a name that is there
unfoldable pub is_allowed : Roster → Change → Bool
is_allowed roster (Join name) =
    not (is_among roster.joined name) && nat_lt (length roster.joined) MOST_MEMBERS
is_allowed roster (Leave name) = is_there roster name
is_allowed roster (Lose name) = is_there roster name

abbrev pub entered : Roster → Change → Roster
entered roster (Join name) =
    record { joined = roster.joined ++ name ∷ []; gone = roster.gone }
entered roster (Leave name) =
    record { joined = roster.joined; gone = roster.gone ++ name ∷ [] }
entered roster (Lose name) =
    record { joined = roster.joined; gone = roster.gone ++ name ∷ [] }

abbrev pub roster_of : List Change → Roster
roster_of changes = fold entered nobody_yet changes

-- fewer are gone than joined
abbrev pub is_anybody_left : Roster → Bool
is_anybody_left roster = nat_lt (length roster.gone) (length roster.joined)

-- a plan has a line, each of its lines may follow those before it, and after each somebody is
-- present
pub record IsPlan (lines : List Change) : Type 0 where
  pub some : 1 ≤ length lines
  pub allowed : (i : ℕ) (change : Change) → slice_get lines i ≡ Some change
      → is_allowed (roster_of (take i lines)) change ≡ true
  pub left : (i : ℕ) → i < length lines
      → is_anybody_left (roster_of (take (i + 1) lines)) ≡ true

-- a join, a leave and a loss are changes
unfoldable pub change_of : Action → Option Change
change_of (a.Join name) = Some (Join name)
change_of (a.Leave name) = Some (Leave name)
change_of (a.Lose name) = Some (Lose name)
change_of action = None

-- the change of a line, without topics
unfoldable pub parse_change : List ℕ → Option Change
parse_change line = parse_action [] line >>= change_of

-- a line that is too long, even a comment, or that is neither silent nor has a change
unfoldable pub is_no_plan_line : List ℕ → Bool
is_no_plan_line line =
    nat_lt LONGEST_LINE (length line) || (not (is_silent line) && is_none (parse_change line))

-- a line that no plan has is refused, and any other has its change, if any
unfoldable pub parse_change_answer : ℕ × List ℕ → Result (Option Change) Refusal
parse_change_answer (number, line) =
    if is_no_plan_line line then Err (r.BadLine number) else Ok (parse_change line)

-- the fault of a change, as the line of this number: it may not follow those before it, or nobody
-- is left after it
unfoldable pub change_fault : ℕ → Roster → Change → Option Refusal
change_fault number before change =
    if not (is_allowed before change) then Some (r.BadLine number)
    else if not (is_anybody_left (entered before change)) then Some (r.NobodyLeft number)
    else None

-- a fault is a refusal
abbrev pub taken : Option Refusal → Result (Unit {0}) Refusal
taken fault = option_map_or Err fault (Ok tt)

-- the roster behind a change, which it enters only if it may follow
abbrev pub behind : Roster → Change → Roster
behind before change = if is_allowed before change then entered before change else before

-- the fault of a line
unfoldable pub line_fault : Roster → ℕ × List ℕ → Option Refusal
line_fault before (number, line) =
    if is_no_plan_line line then Some (r.BadLine number)
    else parse_change line >>= change_fault number before

-- the fault of the first line that has one, if these changes stand before the lines
unfoldable pub first_fault : List Change → List (ℕ × List ℕ) → Option Refusal
first_fault before [] = None
first_fault before (line ∷ lines) =
    option_or
    (line_fault (roster_of before) line)
    (first_fault (before ++ option_to_list (parse_change line.1)) lines)

-- the changes of lines
abbrev pub changes_in : List (ℕ × List ℕ) → List Change
changes_in lines = filter_map (λ line. parse_change line.1) lines

-- a plan has at least one change: without any, nobody is present
unfoldable pub with_a_line : List Change → Result (List Change) Refusal
with_a_line changes = if length changes == 0 then Err (r.NobodyLeft 0) else Ok changes

-- the first fault, or if there is none, the changes
unfoldable pub plan_of : List (ℕ × List ℕ) → Result (List Change) Refusal
plan_of lines = option_map_or Err (first_fault [] lines) (with_a_line (changes_in lines))

-- the lines of a script are numbered from 1
abbrev pub plan_answer : List ℕ → Result (List Change) Refusal
plan_answer bytes = plan_of (lines_from 1 bytes)
