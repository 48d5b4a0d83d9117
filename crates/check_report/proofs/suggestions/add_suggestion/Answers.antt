use Rattle.std.proofs.Common.{◌≡◌, ◌++◌, ℕ, List, Some, append_assoc, codes, rules}
use Rattle.script.specs.Grammar.{first_word}
use Rattle.check_report.specs.Suggestions.{form_text, nearest}
use Rattle.check_report.proofs.suggestions.add_suggestion.Goals as goal

asked : (old before text behind first second all : List ℕ) → first ≡ old ++ before → second ≡ first ++ text → all ≡ second ++ behind → all ≡ old ++ (before ++ (text ++ behind))
asked old before text behind first second all h i j = rw (j, i, h) (simp append_assoc)

pub returns : goal.returns
returns c =
    let form = c.in-Some.form in
    let near : nearest (first_word c.args.line.now) c.args.forms.now ≡ Some form = search rules in
    let first : c.extend_from_slice.new.self.items ≡ c.args.words.now.items ++ codes "; did you mean '" = c.in_ok-extend_from_slice.ensures.items in
    let second : c.add_form.new.words.items ≡ c.extend_from_slice.new.self.items ++ form_text c.args.topics form = search rules in
    let all : c.extend_from_slice-2.new.self.items ≡ c.add_form.new.words.items ++ codes "'?" = c.in_ok-extend_from_slice-2.ensures.items in
    rw near (asked c.args.words.now.items (codes "; did you mean '") (form_text c.args.topics form) (codes "'?") c.extend_from_slice.new.self.items c.add_form.new.words.items c.extend_from_slice-2.new.self.items first second all)
