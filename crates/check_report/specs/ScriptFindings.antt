-- The lines of a script, or of a plan, that are bad.
use Rattle.std.specs.Prelude.{ℕ, ◌==◌, nat_lt, not, Bool, true, false, if◌then◌else◌, List, [], ◌∷◌, ◌++◌, Option, Some, None, codes, decimal, length, take, zip}
use Rattle.std.specs.List.{cons_option, filter_map, list_any}
use Rattle.std.specs.Option.{is_some, option_map, option_map_or}
use Rattle.lane_words.specs.Refusal.{code_of}
use Rattle.lane_words.specs.declared.Refusal.{Refusal}
use Rattle.lane_words.specs.declared.Refusal.TheVariants as r
use Rattle.lane_words.specs.declared.limits.TheConstants.{MOST_MEMBERS}
use Rattle.partitioner.specs.declared.topic.Topic.{Topic}
use Rattle.script.specs.Grammar.{line_starts, lines_from}
use Rattle.script.specs.Plan.{Roster, behind, is_among, is_no_plan_line, line_fault, nobody_yet, parse_change}
use Rattle.script.specs.Replay.{is_bad}
use Rattle.script.specs.declared.forms.Form.{Form}
use Rattle.script.specs.declared.forms.TheConstants.{FORMS, PLAN_FORMS}
use Rattle.script.specs.declared.limits.TheConstants.{LONGEST_LINE}
use Rattle.script.specs.declared.plan.Change.{Change}
use Rattle.script.specs.declared.plan.Change.TheVariants.{Join, Leave, Lose}
use Rattle.check_report.specs.Findings.{Finding, shown}
use Rattle.check_report.specs.Suggestions.{suggestion}

-- a line of a script: its first byte, its number and its bytes without the line's end
abbrev pub ScriptLine : Type 0
ScriptLine = ℕ × (ℕ × List ℕ)

-- the lines of a script; bytes are counted from 0, and lines from 1
abbrev pub script_lines : List ℕ → List ScriptLine
script_lines script = zip (line_starts 0 script) (lines_from 1 script)

-- the finding of a fault in a line
abbrev pub found_in : ScriptLine → Refusal → List ℕ → Finding
found_in line fault words = record {
  in_script = true;
  code = Some (code_of fault);
  nth = None;
  line = Some line.1.0;
  byte = Some line.0;
  words = words;
}

-- a line that can't be read, in words, where lines have these forms
abbrev pub unread_words : List Form → Bool → List ℕ → List ℕ
unread_words forms topics line =
    if nat_lt LONGEST_LINE (length line)
    then codes "the line has " ++ decimal (length line) ++ codes " bytes, "
    ++ decimal LONGEST_LINE ++ codes " are the most"
    else codes "no such line: " ++ shown line ++ suggestion forms topics line

-- ---- a script
-- a line of a script that can't be read, in words
abbrev pub unread_in_script : List Topic → List ℕ → List ℕ
unread_in_script topics line = unread_words FORMS (not (length topics == 0)) line

-- the finding of a line, if it is bad
unfoldable pub line_finding : List Topic → ScriptLine → Option Finding
line_finding topics line =
    if is_bad topics line.1.1
    then Some (found_in line (r.BadLine line.1.0) (unread_in_script topics line.1.1))
    else None

-- ---- a plan
-- a line of a plan that can't be read, in words
abbrev pub unread_in_plan : List ℕ → List ℕ
unread_in_plan line = unread_words (take PLAN_FORMS FORMS) false line

-- a change that may not follow those before it, in words
abbrev pub change_words : Roster → Change → List ℕ
change_words before (Join name) =
    if is_among before.joined name
    then name ++ codes " has joined before"
    else decimal MOST_MEMBERS ++ codes " members have joined, which are the most"
change_words before (Leave name) = name ++ codes " is not a name that is present"
change_words before (Lose name) = name ++ codes " is not a name that is present"

-- a fault of a line behind those before it, in words
unfoldable pub plan_words : Roster → List ℕ → Refusal → List ℕ
plan_words before line (r.NobodyLeft number) = codes "nobody is present after this line"
plan_words before line fault =
    if is_no_plan_line line then unread_in_plan line
    else option_map_or (change_words before) (parse_change line) []

-- the finding of a line behind those before it, if it has a fault
unfoldable pub plan_finding : Roster → ScriptLine → Option Finding
plan_finding before line =
    option_map (λ fault. found_in line fault (plan_words before line.1.1 fault))
    (line_fault before (line.1.0, line.1.1))

-- who has joined and is gone behind a line, which counts for nothing if it is bad
unfoldable pub behind_line : Roster → List ℕ → Roster
behind_line before line =
    if is_no_plan_line line then before
    else option_map_or (behind before) (parse_change line) before

-- the findings of lines behind those before them
unfoldable pub plan_findings_from : Roster → List ScriptLine → List Finding
plan_findings_from before [] = []
plan_findings_from before (line ∷ lines) =
    cons_option (plan_finding before line)
    (plan_findings_from (behind_line before line.1.1) lines)

-- whether one of these lines is a change
abbrev pub has_change : List ScriptLine → Bool
has_change lines = list_any (λ line. is_some (parse_change line.1.1)) lines

-- a plan without a change, of which no line is bad either
abbrev pub no_change : Finding
no_change = record {
  in_script = true;
  code = Some (code_of (r.NobodyLeft 0));
  nth = None;
  line = None;
  byte = None;
  words = codes "the plan has no join";
}

-- the findings of lines, or that none is a change
abbrev pub or_no_change : Bool → List Finding → List Finding
or_no_change changes [] = if changes then [] else no_change ∷ []
or_no_change changes (finding ∷ findings) = finding ∷ findings

-- the findings of a plan, in order
abbrev pub findings_of_plan : List ℕ → List Finding
findings_of_plan script =
    or_no_change (has_change (script_lines script))
    (plan_findings_from nobody_yet (script_lines script))

-- ---- either
-- the findings of a script, or of a plan, in order
abbrev pub findings_of_script : List Topic → Bool → List ℕ → List Finding
findings_of_script topics false script = filter_map (line_finding topics) (script_lines script)
findings_of_script topics true script = findings_of_plan script
