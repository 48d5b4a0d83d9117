-- The form that a line may have been meant to have.
use Rattle.std.specs.Prelude.{ℕ, ◌+◌, ◌&&◌, nat_eq, nat_lt, Bool, if◌then◌else◌, List, [], ◌++◌, Option, Some, None, codes, fold, length}
use Rattle.strsim.specs.Edits.{levenshtein_row}
use Rattle.script.specs.Forms.{parts_of, word_of}
use Rattle.script.specs.Grammar.{first_word}
use Rattle.script.specs.declared.forms.Form.{Form}

-- how many bytes are to be put in, taken out or replaced to make one word another
abbrev pub edits : List ℕ → List ℕ → ℕ
edits from to = levenshtein_row nat_eq from to (length to)

-- how far the first word of a form is from this word
abbrev pub edits_to : List ℕ → Form → ℕ
edits_to word form = edits word (word_of form)

-- a form, and how far its first word is, in place of those so far if it is nearer
abbrev pub nearer : List ℕ → ℕ × Option Form → Form → ℕ × Option Form
nearer word so_far form =
    if nat_lt (edits_to word form) so_far.0 then (edits_to word form, Some form) else so_far

-- the form whose first word is nearest to this word, of several the first; none if all are farther
-- than 2
unfoldable pub nearest : List ℕ → List Form → Option Form
nearest word forms = (fold (nearer word) (3, None) forms).1

-- the two parts of a form, and with topics the word TOPIC between them, unless the second is empty
abbrev pub joined_parts : Bool → List ℕ × List ℕ → List ℕ
joined_parts topics parts =
    parts.0 ++ (if topics && nat_lt 0 (length parts.1) then codes " TOPIC" else []) ++ parts.1

-- a form as it is shown
abbrev pub form_text : Bool → Form → List ℕ
form_text topics form = joined_parts topics (parts_of form)

-- the question whether a form was meant, if one is near
abbrev pub question : Bool → Option Form → List ℕ
question topics None = []
question topics (Some form) = codes "; did you mean '" ++ form_text topics form ++ codes "'?"

-- the question whether the form was meant that is nearest to a line
abbrev pub suggestion : List Form → Bool → List ℕ → List ℕ
suggestion forms topics line = question topics (nearest (first_word line) forms)
