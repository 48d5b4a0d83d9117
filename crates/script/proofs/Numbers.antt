-- The number that std parses, for a word of 1 to 10 digits.
use Rattle.std.proofs.Common.{◌≡◌, refl, ℕ, ◌<◌, ◌≤◌, ◌^◌, Bool, true, false, cond, ltb, leb, List, length, Some, None, Result, Ok, Err, arith, rules, ◌&&◌}
use Rattle.std.proofs.lemmas.Fmt.{IsAscii-from_digits}
use Rattle.std.proofs.lemmas.Str.{IsUtf8-from_ascii}
use Rattle.std.proofs.lemmas.Str.Parse.{IsNumeralModel, numerals_by_value, parse_digits}
use Rattle.std.specs.Char.{is_ascii_digit}
use Rattle.std.specs.List.{list_all}
use Rattle.std.specs.Result.{result_ok}
use Rattle.std.specs.Str.{IsUtf8}
use Rattle.std.specs.Str.Parse.{ParsesUnsigned, digits_value}
use Rattle.script.specs.Grammar.{number_of}
use borrow.Author.Tests.{le-leb, lt-ltb, ltb-true}

pub digits_model : IsNumeralModel (λ word. list_all is_ascii_digit word ≡ true) (digits_value 10)
digits_model = numerals_by_value _ (search rules)

pub digits_are_text : (word : List ℕ) → list_all is_ascii_digit word ≡ true → IsUtf8 word
digits_are_text word h = IsUtf8-from_ascii word (IsAscii-from_digits word (digits_model.to word h))

pub number-read : {E : Type 0} (word : List ℕ) (r : Result ℕ E)
    → ParsesUnsigned 32 10 word r → list_all is_ascii_digit word ≡ true → 0 < length word
    → length word ≤ 10 → result_ok r ≡ number_of word
unfolding number_of
number-read {E} word (Ok n) parses digits some few =
    let read = parse_digits digits_model {E = E} 32 word (Ok n) parses digits in
    rw (
      digits,
      le-leb 1 (length word) (omega arith),
      le-leb (length word) 10 few,
      lt-ltb _ _ read.0.1,
      read.1,
    ) refl
number-read {E} word (Err e) parses digits some few =
    at (ltb (digits_value 10 word) (2 ^ 32)) refl
  where
    at : (b : Bool) → ltb (digits_value 10 word) (2 ^ 32) ≡ b
        → None
        ≡ cond (list_all is_ascii_digit word && leb 1 (length word) && leb (length word) 10 && b)
        (Some (digits_value 10 word)) None
    at true t =
        absurd (parse_digits digits_model {E = E} 32 word (Err e) parses digits (some, ltb-true _ _ t))
    at false t = rw (digits, le-leb 1 (length word) (omega arith), le-leb (length word) 10 few) refl
