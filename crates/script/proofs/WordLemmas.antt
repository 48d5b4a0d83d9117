-- Names, numbers and commands have no spaces.
use Rattle.std.proofs.Common.{◌≡◌, refl, sym, ap, ◌∙◌, ℕ, ◌^◌, Bool, true, false, cond, not, eqb, leb, ltb, ◌&&◌, List, length, Some, None}
use Rattle.std.proofs.lemmas.List.Elements.{All-weaker}
use Rattle.std.proofs.lemmas.List.Sums.{AllPass-from_list_all}
use Rattle.std.specs.Char.{is_ascii_digit}
use Rattle.std.specs.List.{All, list_all}
use Rattle.std.specs.Str.Parse.{digits_value}
use Rattle.partitioner.specs.Name.{is_name, is_name_byte}
use Rattle.script.specs.Grammar.{is_space, number_of}
use borrow.Author.Tests.{eqb-true}

no_space : (p : ℕ → Bool)
    → p 32 ≡ false → (b : ℕ) (t : Bool) → eqb b 32 ≡ t → p b ≡ true → t ≡ false
no_space p fails b true e passes =
    let same : b ≡ 32 = eqb-true b 32 e in
    let passed : p 32 ≡ true = sym (ap p same) ∙ passes in
    cc
no_space p fails b false e passes = refl

pub is_word : (p : ℕ → Bool) → p 32 ≡ false → (word : List ℕ) → list_all p word ≡ true
    → All (λ b. is_space b ≡ false) word
is_word p fails word h =
    All-weaker (λ b. p b ≡ true) (λ b. is_space b ≡ false)
    (λ b passes. no_space p fails b (is_space b) refl passes) word
    (AllPass-from_list_all p word h)

and_last : (a b : Bool) → (a && b) ≡ true → b ≡ true
and_last true b e = e
and_last false b e = absurd cc

pub name-word : (name : List ℕ) → is_name name ≡ true → All (λ b. is_space b ≡ false) name
name-word name h = is_word is_name_byte refl name (and_last _ _ h)

pub number-word : (word : List ℕ) (n : ℕ) → number_of word ≡ Some n → All (λ b. is_space b ≡ false) word
unfolding number_of
number-word word n h = is_word is_ascii_digit refl word (at (list_all is_ascii_digit word) refl h)
  where
    at : (digits : Bool) → list_all is_ascii_digit word ≡ digits
        → cond
        (digits && leb 1 (length word) && leb (length word) 10
        && ltb (digits_value 10 word) (2 ^ 32))
        (Some (digits_value 10 word)) None ≡ Some n
        → list_all is_ascii_digit word ≡ true
    at true e h = e
    at false e h = absurd cc

pub command-word : (command : List ℕ) → list_all (λ b. not (is_space b)) command ≡ true
    → All (λ b. is_space b ≡ false) command
command-word command h = is_word (λ b. not (is_space b)) refl command h
