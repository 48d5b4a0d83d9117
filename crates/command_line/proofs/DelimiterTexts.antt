-- The delimiters of values.
use Rattle.std.proofs.Common.{◌≡◌, ◌∙◌, ℕ, Bool, true, false, List, [], ◌∷◌, Option, Some, None, ap, refl, sym, subst}
use Rattle.std.specs.Prelude.{if◌then◌else◌, codes}
use Rattle.std.specs.Str.{bytes_eq}
use Rattle.command_line.specs.Delimiters.{IsDelimiterOf, is_delimiter, only_delimiter}

chosen : (b : Bool) (c d : ℕ) → is_delimiter c ≡ b → (if b then Some c else None) ≡ Some d → is_delimiter d ≡ true
chosen true c d is e = let same : c ≡ d = cc e in ap is_delimiter (sym same) ∙ is
chosen false c d is e = absurd (cc e)

only_is : (text : List ℕ) (c : ℕ) → only_delimiter text ≡ Some c → is_delimiter c ≡ true
only_is [] c e = absurd (cc e)
only_is (b ∷ []) c e = chosen (is_delimiter b) b c refl e
only_is (b ∷ d ∷ text) c e = absurd (cc e)

text_is : (b : Bool) (text : List ℕ) (c : ℕ) → (if b then Some 9 else only_delimiter text) ≡ Some c → is_delimiter c ≡ true
text_is true text c e = let same : 9 ≡ c = cc e in subst (λ d. is_delimiter d ≡ true) same refl
text_is false text c e = only_is text c e

-- the delimiter of an option can be one
pub delimiter_given : (value : Option (List ℕ)) (c : ℕ) → IsDelimiterOf value c → is_delimiter c ≡ true
delimiter_given None c is = subst (λ d. is_delimiter d ≡ true) (sym is) refl
delimiter_given (Some text) c is = text_is (bytes_eq text (codes "tab")) text c is
