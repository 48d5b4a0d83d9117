-- The bytes before the first byte that passes a test, and the bytes after it.
use Rattle.std.proofs.Common.{◌≡◌, refl, ap, subst, ◌∙◌, ℕ, ◌+◌, ◌-◌, ◌<◌, ◌≤◌, Bool, true, false, cond, not, ltb, List, [], ◌∷◌, ◌++◌, length, take, drop, Option, Some, None, arith, add_comm}
use Rattle.std.proofs.Math.Seq.{drop-append-add, get_or-append_seam, take-append_seam}
use Rattle.std.proofs.lemmas.List.{get_or_append_left, length-append, length-drop, length-take, take_rest}
use Rattle.std.proofs.lemmas.List.Sums.{passes_at_first, position_or_len_is, split_at_first}
use Rattle.std.specs.List.{All, after_first, before_first, onto_first, position, position_or_len}
use Rattle.std.specs.Option.{option_map}
use Rattle.script.specs.Grammar.{is_line_feed, is_space, line_starts, line_starts_of, split_lines, split_word}
use native.Mathlib.Numerals.{unary_clauses}
use borrow.Author.Tests.{eqb-true, lt-ltb, ltb-true, ltb-false}

pub first_at : (p : ℕ → Bool) (xs : List ℕ) (i : ℕ)
    → position p xs ≡ Some i → (position_or_len p xs ≡ i) × (position_or_len p xs < length xs)
first_at p xs i e = at (ltb (position_or_len p xs) (length xs)) refl e
  where
    at : (b : Bool) → ltb (position_or_len p xs) (length xs) ≡ b
        → cond b (Some (position_or_len p xs)) None ≡ Some i
        → (position_or_len p xs ≡ i) × (position_or_len p xs < length xs)
    at true t e = (cc, ltb-true _ _ t)
    at false t e = absurd cc

pub none_at : (p : ℕ → Bool) (xs : List ℕ) → position p xs ≡ None → length xs ≤ position_or_len p xs
none_at p xs e = at (ltb (position_or_len p xs) (length xs)) refl e
  where
    at : (b : Bool) → ltb (position_or_len p xs) (length xs) ≡ b
        → cond b (Some (position_or_len p xs)) None ≡ None → length xs ≤ position_or_len p xs
    at true t e = absurd cc
    at false t e = ltb-false _ _ t

no_cut : (x : ℕ) (xs : List ℕ) (parts : List (List ℕ)) (n : ℕ) (b : Bool)
    → (length xs ≤ n → parts ≡ xs ∷ []) → length (x ∷ xs) ≤ cond (not b) (1 + n) 0
    → cond b ([] ∷ parts) (onto_first x parts) ≡ (x ∷ xs) ∷ []
no_cut x xs parts n true rest h = absurd (omega arith)
no_cut x xs parts n false rest h = ap (onto_first x) (rest (omega arith))

cut : (x : ℕ) (xs : List ℕ) (n : ℕ) (b : Bool)
    → (n < length xs → split_lines xs ≡ take n xs ∷ split_lines (drop (n + 1) xs))
    → cond (not b) (1 + n) 0 < length (x ∷ xs)
    → cond b ([] ∷ split_lines xs) (onto_first x (split_lines xs))
    ≡ take (cond (not b) (1 + n) 0) (x ∷ xs) ∷ split_lines (drop (cond (not b) (1 + n) 0 + 1) (x ∷ xs))
cut x xs n true rest h = refl
cut x xs n false rest h =
    rw (add_comm 1 n)
    (simp unary_clauses (ap (onto_first x) (simp unary_clauses at (rest (omega arith)))))

lines_first : (xs : List ℕ)
    → position_or_len is_line_feed xs < length xs
    → split_lines xs ≡ before_first is_line_feed xs ∷ split_lines (after_first is_line_feed xs)
lines_first [] h = absurd (omega arith)
lines_first (x ∷ xs) h =
    cut x xs (position_or_len is_line_feed xs) (is_line_feed x) (lines_first xs) h

pub lines-found : (xs : List ℕ) (i : ℕ)
    → position is_line_feed xs ≡ Some i
    → split_lines xs ≡ take i xs ∷ split_lines (take (length xs - (i + 1)) (drop (i + 1) xs))
lines-found xs i e =
    let at = first_at is_line_feed xs i e in
    let first = lines_first xs at.1 in
    rw (take_rest xs (i + 1)) (rw (at.0) at first)

lines_none : (x : ℕ) (xs : List ℕ)
    → length (x ∷ xs) ≤ position_or_len is_line_feed (x ∷ xs) → split_lines (x ∷ xs) ≡ (x ∷ xs) ∷ []
lines_none x [] h = no_line_feed x (is_line_feed x) h
  where
    no_line_feed : (x : ℕ) (b : Bool) → 1 ≤ cond (not b) 1 0
        → cond b ([] ∷ []) (onto_first x []) ≡ (x ∷ []) ∷ []
    no_line_feed x true h = absurd (omega arith)
    no_line_feed x false h = refl
lines_none x (y ∷ ys) h =
    no_cut x (y ∷ ys) (split_lines (y ∷ ys)) (position_or_len is_line_feed (y ∷ ys)) (is_line_feed x) (lines_none y ys) h

pub lines-none : (xs : List ℕ)
    → 0 < length xs → position is_line_feed xs ≡ None → split_lines xs ≡ xs ∷ []
lines-none [] some e = absurd (omega arith)
lines-none (x ∷ xs) some e = lines_none x xs (none_at is_line_feed (x ∷ xs) e)

split_at : (text : List ℕ) (i : ℕ) → position is_space text ≡ Some i
    → text ≡ take i text ++ 32 ∷ drop (i + 1) text
split_at text i e =
    let at = first_at is_space text i e in
    let whole = split_at_first is_space text 0 at.1 in
    let space = eqb-true _ 32 (passes_at_first is_space text 0 at.1) in
    rw (at.0) at (rw space at whole)

pub split-parts : (text : List ℕ) (parts : List ℕ × List ℕ) → split_word text ≡ Some parts
    → text ≡ parts.0 ++ 32 ∷ parts.1
unfolding split_word
split-parts text parts e = go (position is_space text) refl e
  where
    go : (o : Option ℕ) → position is_space text ≡ o
        → option_map (λ i. (take i text, drop (i + 1) text)) o ≡ Some parts
        → text ≡ parts.0 ++ 32 ∷ parts.1
    go None at e = absurd cc
    go (Some i) at e =
        let is : (take i text, drop (i + 1) text) ≡ parts = cc in
        subst (λ parts. text ≡ parts.0 ++ 32 ∷ parts.1) is (split_at text i at)

pub split-there : (word text : List ℕ) → All (λ b. is_space b ≡ false) word
    → split_word (word ++ 32 ∷ text) ≡ Some (word, text)
unfolding split_word
split-there word text h =
    let sizes = length-append word (32 ∷ text) in
    let at =
    position_or_len_is is_space (word ++ 32 ∷ text) (length word) 0 (omega arith)
    (λ k below. ap is_space (get_or_append_left word (32 ∷ text) 0 k below) ∙ h k 0 below)
    (λ below. ap is_space (get_or-append_seam word 32 text 0)) in
    let within : length word < length (word ++ 32 ∷ text) = omega arith in
    rw (at, lt-ltb _ _ within, take-append_seam, drop-append-add word (32 ∷ text) 1) refl

-- the lines behind a line feed begin behind it
pub starts-found : (xs : List ℕ) (i first : ℕ) → position is_line_feed xs ≡ Some i
    → line_starts first xs
    ≡ first ∷ line_starts (first + (length xs - length (take (length xs - (i + 1)) (drop (i + 1) xs))))
    (take (length xs - (i + 1)) (drop (i + 1) xs))
starts-found xs i first e =
    let at = first_at is_line_feed xs i e in
    let rest = take (length xs - (i + 1)) (drop (i + 1) xs) in
    let long : (first + length (take i xs)) + 1 ≡ first + (length xs - length rest) =
    omega (arith, at.0, at.1, length-take i xs, length-take (length xs - (i + 1)) (drop (i + 1) xs), length-drop (i + 1) xs) in
    ap (line_starts_of first) (lines-found xs i e)
    ∙ ap (λ next. first ∷ line_starts_of next (split_lines rest)) long

pub starts-none : (xs : List ℕ) (first : ℕ) → 0 < length xs → position is_line_feed xs ≡ None
    → line_starts first xs ≡ first ∷ []
starts-none xs first some e = ap (line_starts_of first) (lines-none xs some e)
