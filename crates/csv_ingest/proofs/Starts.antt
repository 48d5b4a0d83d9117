-- Where records begin, by csv's machine.
use Rattle.std.proofs.Common.{◌≡◌, ◌<◌, ◌+◌, ◌∙◌, ℕ, List, [], ◌∷◌, ◌++◌, Bool, true, false, Option, Some, None, length, length-drop, get_or, get_or-drop, take, drop, drop-drop, sym, ap, refl, subst, arith, inl, inr}
use Rattle.std.specs.Prelude.{◌==◌, ◌||◌, not, IfSome, if◌then◌else◌, slice_get, suc, zero}
use Rattle.std.proofs.lemmas.Bool.{cases_Bool}
use Rattle.std.proofs.lemmas.List.{take-append-drop}
use Rattle.csv.specs.Machine.{after_end, ends_at_end, ends_with, field_after, fields_after, in_field, is_end, start_field, start_record, step}
use Rattle.csv.specs.Reading.{is_bom, records, strip_bom}
use Rattle.csv.specs.declared.parser.Action.{Action}
use Rattle.csv.specs.declared.parser.Action.TheVariants as act
use Rattle.csv.specs.declared.parser.State.{State}
use Rattle.csv.specs.declared.parser.State.TheVariants as st
use Rattle.csv_ingest.specs.KeyFile.{Record, dialect}
use Rattle.csv_ingest.specs.Pieces.{bom_length, file_records}
use Rattle.csv_ingest.specs.Private.Walk.{walk}
use Rattle.csv_ingest.specs.Stand.{field_begun, is_line_end, stand_after, stand_next, unquoted}
use Rattle.csv_ingest.specs.Starts.{BeginsAt, begins_record, first_if, starts, starts_from}
use Rattle.csv_ingest.specs.declared.stand.Stand.{Stand}
use Rattle.csv_ingest.specs.declared.stand.Stand.TheVariants as k
use Rattle.csv_ingest.proofs.Cutting.{strip-drop}
use Rattle.csv_ingest.proofs.Stands.{Sees, cut_behind, step-sees}
use Rattle.csv_ingest.proofs.Walk.{after_cr-step, records-walk}

-- ---- as many starts as records
plus-none : (n : ℕ) → n ≡ 0 + n
plus-none n = omega arith

plus-one : (n : ℕ) → suc n ≡ 1 + n
plus-one n = omega arith

abbrev pub one_if : Bool → ℕ
one_if true = 1
one_if false = 0

-- the record that a reader is in
abbrev pub begun : Stand → ℕ
begun k.Record = 0
begun k.Fresh = 1
begun k.Bare = 1
begun k.Quoted = 1

-- a step ends the record or stays in it
abbrev pub EndsOrStays : State × Action → Stand → Type 0
EndsOrStays p x = one_if (is_end p.1) + begun x ≡ 1

choose : (b : Bool) (p q : State × Action) (x y : Stand) → EndsOrStays p x → EndsOrStays q y → EndsOrStays (if b then p else q) (if b then x else y)
choose true p q x y h k = h
choose false p q x y h k = k

in_field-one : (delimiter c : ℕ) → EndsOrStays (in_field (dialect delimiter) c) (unquoted delimiter c)
in_field-one delimiter c =
    choose (c == delimiter) (st.StartField, act.EndField) (if ends_with (dialect delimiter).terminator c then (after_end (dialect delimiter).terminator c, act.EndRecord) else (st.InField, act.Copy))
    k.Fresh (if (c == 13) || (c == 10) then k.Record else k.Bare) refl
    (choose (ends_with (dialect delimiter).terminator c) (after_end (dialect delimiter).terminator c, act.EndRecord) (st.InField, act.Copy) k.Record k.Bare refl refl)

start_field-one : (delimiter c : ℕ) → EndsOrStays (start_field (dialect delimiter) c) (field_begun delimiter c)
start_field-one delimiter c =
    choose (c == 34) (st.InQuoted, act.Skip) (in_field (dialect delimiter) c) k.Quoted (unquoted delimiter c) refl (in_field-one delimiter c)

-- a step from one stand to another: what it ends and what is begun then, are what was begun and what begins
abbrev pub Counts : State × Action → Stand → Stand → ℕ → Type 0
Counts p x y c = one_if (is_end p.1) + begun y ≡ begun x + one_if (begins_record x c)

start_record-counts : (delimiter c : ℕ) → Counts (start_record (dialect delimiter) c) k.Record (stand_next delimiter k.Record c) c
start_record-counts delimiter c = go (is_line_end c) (start_field-one delimiter c) ∙ plus-none (one_if (not (is_line_end c)))
  where
    go : (b : Bool) → EndsOrStays (start_field (dialect delimiter) c) (field_begun delimiter c)
        → one_if (is_end (if b then (st.StartRecord, act.Skip) else start_field (dialect delimiter) c).1) + begun (if b then k.Record else field_begun delimiter c) ≡ one_if (not b)
    go true one = refl
    go false one = one

step-counts : (delimiter : ℕ) (s : State) (x : Stand) (c : ℕ) → Sees s x → Counts (step (dialect delimiter) s c) x (stand_next delimiter x c) c
step-counts delimiter st.StartRecord x c e = rw e (start_record-counts delimiter c)
step-counts delimiter st.AfterCr x c e = rw (e, after_cr-step delimiter c) (start_record-counts delimiter c)
step-counts delimiter st.StartField x c e = rw e (start_field-one delimiter c)
step-counts delimiter st.AfterQuote x c e = rw e (choose (c == 34) (st.InQuoted, act.Copy) (in_field (dialect delimiter) c) k.Quoted (unquoted delimiter c) refl (in_field-one delimiter c))
step-counts delimiter st.InField x c e = rw e (in_field-one delimiter c)
step-counts delimiter st.InQuoted x c e = rw e (choose (c == 34) (st.AfterQuote, act.Skip) (st.InQuoted, act.Copy) k.Fresh k.Quoted refl refl)
step-counts delimiter st.InEscape x c e = absurd e
step-counts delimiter st.InComment x c e = absurd e

end-counts : (s : State) (x : Stand) (fields : Record) → Sees s x → length (if ends_at_end s then fields ∷ [] else []) ≡ begun x
end-counts st.StartRecord x fields e = rw e refl
end-counts st.AfterCr x fields e = rw e refl
end-counts st.StartField x fields e = rw e refl
end-counts st.AfterQuote x fields e = rw e refl
end-counts st.InField x fields e = rw e refl
end-counts st.InQuoted x fields e = rw e refl
end-counts st.InEscape x fields e = absurd e
end-counts st.InComment x fields e = absurd e

length-if : (b : Bool) (row : Record) (xs ys : List Record) (n : ℕ) → (b ≡ true → length xs ≡ n) → (b ≡ false → length ys ≡ n) → length (if b then row ∷ xs else ys) ≡ one_if b + n
length-if true row xs ys n h k = ap suc (h refl) ∙ plus-one n
length-if false row xs ys n h k = k refl ∙ plus-none n

length-first_if : (b : Bool) (byte : ℕ) (more : List ℕ) → length (first_if b byte more) ≡ one_if b + length more
length-first_if true byte more = plus-one (length more)
length-first_if false byte more = plus-none (length more)

walk-counts : (delimiter : ℕ) (bytes : List ℕ) (s : State) (x : Stand) (fields : List (List ℕ)) (field : List ℕ) (byte : ℕ) → Sees s x
    → length (walk delimiter s fields field bytes) ≡ begun x + length (starts_from delimiter x byte bytes)
unfolding walk starts_from
walk-counts delimiter [] s x fields field byte e =
    let ended : length (walk delimiter s fields field []) ≡ begun x = end-counts s x (fields ++ field ∷ []) e in
    let none : length (starts_from delimiter x byte []) ≡ 0 = refl in
    omega (arith, ended, none)
walk-counts delimiter (c ∷ bytes) s x fields field byte e =
    let p = step (dialect delimiter) s c in
    let y = stand_next delimiter x c in
    let more = starts_from delimiter y (byte + 1) bytes in
    let sees = step-sees delimiter s x c e in
    let read : length (walk delimiter s fields field (c ∷ bytes)) ≡ one_if (is_end p.1) + (begun y + length more) =
    length-if (is_end p.1) (fields_after p.1 fields field) (walk delimiter p.0 [] [] bytes) (walk delimiter p.0 (fields_after p.1 fields field) (field_after p.1 c field) bytes) (begun y + length more)
    (λ ends. walk-counts delimiter bytes p.0 y [] [] (byte + 1) sees)
    (λ stays. walk-counts delimiter bytes p.0 y (fields_after p.1 fields field) (field_after p.1 c field) (byte + 1) sees) in
    let begin : length (starts_from delimiter x byte (c ∷ bytes)) ≡ one_if (begins_record x c) + length more = length-first_if (begins_record x c) byte more in
    let counts : one_if (is_end p.1) + begun y ≡ begun x + one_if (begins_record x c) = step-counts delimiter s x c e in
    omega (arith, read, begin, counts)

pub starts-records : (delimiter byte : ℕ) (bytes : List ℕ) → length (starts_from delimiter k.Record byte bytes) ≡ length (records (dialect delimiter) bytes)
starts-records delimiter byte bytes =
    plus-none (length (starts_from delimiter k.Record byte bytes)) ∙ sym (ap length (records-walk delimiter bytes) ∙ walk-counts delimiter bytes st.StartRecord k.Record [] [] byte refl)

pub a_start_each : (delimiter : ℕ) (file : List ℕ) → length (starts delimiter file) ≡ length (file_records delimiter file)
a_start_each delimiter file = starts-records delimiter (bom_length file) (drop (bom_length file) file) ∙ ap (λ bytes. length (records (dialect delimiter) bytes)) (sym (strip-drop file))

-- ---- what is before a start
-- start i of a text whose first byte is byte n: behind `at` bytes, among which i records begin
record Splits (delimiter : ℕ) (s : Stand) (n : ℕ) (bytes : List ℕ) (i byte : ℕ) : Type 0 where
  at : ℕ
  byte_is : byte ≡ n + at
  within : at < length bytes
  begins : is_line_end (get_or bytes at 0) ≡ false
  stands : stand_after delimiter s (take at bytes) ≡ k.Record
  before : length (starts_from delimiter s n (take at bytes)) ≡ i

begins-here : (s : Stand) (c : ℕ) → begins_record s c ≡ true → (s ≡ k.Record) × (is_line_end c ≡ false)
begins-here k.Record c e = (refl, go (is_line_end c) e)
  where
    go : (b : Bool) → not b ≡ true → b ≡ false
    go true e = cc e
    go false e = refl
begins-here k.Fresh c e = cc e
begins-here k.Bare c e = cc e
begins-here k.Quoted c e = cc e

splits-later : (delimiter : ℕ) (s : Stand) (n c : ℕ) (bytes : List ℕ) (i byte : ℕ) → Splits delimiter (stand_next delimiter s c) (n + 1) bytes i byte
    → Splits delimiter s n (c ∷ bytes) (one_if (begins_record s c) + i) byte
unfolding stand_after starts_from
splits-later delimiter s n c bytes i byte w = record {
  at = suc w.at;
  byte_is = let is = w.byte_is in omega (arith, is);
  within = let within = w.within in omega (arith, within);
  begins = w.begins;
  stands = w.stands;
  before = length-first_if (begins_record s c) n (starts_from delimiter (stand_next delimiter s c) (n + 1) (take w.at bytes)) ∙ ap (λ m. one_if (begins_record s c) + m) w.before;
}

start-splits : (delimiter : ℕ) (bytes : List ℕ) (s : Stand) (n i byte : ℕ) → slice_get (starts_from delimiter s n bytes) i ≡ Some byte → Splits delimiter s n bytes i byte
unfolding stand_after starts_from
start-splits delimiter [] s n i byte e = absurd (cc e)
start-splits delimiter (c ∷ bytes) s n i byte e = go (begins_record s c) i refl e (λ j is. splits-later delimiter s n c bytes j byte (start-splits delimiter bytes (stand_next delimiter s c) (n + 1) j byte is))
  where
    more : List ℕ
    more = starts_from delimiter (stand_next delimiter s c) (n + 1) bytes

    go : (b : Bool) (i : ℕ) → begins_record s c ≡ b → slice_get (first_if b n more) i ≡ Some byte → ((j : ℕ) → slice_get more j ≡ Some byte → Splits delimiter s n (c ∷ bytes) (one_if (begins_record s c) + j) byte)
        → Splits delimiter s n (c ∷ bytes) i byte
    go true zero b e later =
        let here = begins-here s c b in
        let first : n ≡ byte = cc e in
        record { at = 0; byte_is = omega (arith, first); within = omega arith; begins = here.1; stands = here.0; before = refl }
    go true (suc i) b e later = subst (λ (m : ℕ). Splits delimiter s n (c ∷ bytes) m byte) (ap (λ t. one_if t + i) b ∙ sym (plus-one i)) (later i e)
    go false i b e later = subst (λ (m : ℕ). Splits delimiter s n (c ∷ bytes) m byte) (ap (λ t. one_if t + i) b ∙ sym (plus-none i)) (later i e)

take-front : (n : ℕ) (xs ys : List Record) → length xs ≡ n → take n (xs ++ ys) ≡ xs
take-front zero [] ys e = refl
take-front (suc n) [] ys e = absurd (omega (arith, e))
take-front zero (x ∷ xs) ys e = absurd (omega (arith, e))
take-front (suc n) (x ∷ xs) ys e = ap (λ (rest : List Record). x ∷ rest) (take-front n xs ys (omega (arith, e)))

drop-front : (n : ℕ) (xs ys : List Record) → length xs ≡ n → drop n (xs ++ ys) ≡ ys
drop-front zero [] ys e = refl
drop-front (suc n) [] ys e = absurd (omega (arith, e))
drop-front zero (x ∷ xs) ys e = absurd (omega (arith, e))
drop-front (suc n) (x ∷ xs) ys e = drop-front n xs ys (omega (arith, e))

take-nil : (n : ℕ) → take {A = ℕ} n [] ≡ []
take-nil zero = refl
take-nil (suc n) = refl

short-strip : (a : ℕ) (rest : List ℕ) (at : ℕ) → length rest < 2 → strip_bom (take at (a ∷ rest)) ≡ take at (a ∷ rest)
unfolding strip_bom
short-strip a [] zero less = refl
short-strip a [] (suc at) less = ap (λ (xs : List ℕ). strip_bom (a ∷ xs)) (take-nil at) ∙ ap (λ (xs : List ℕ). a ∷ xs) (sym (take-nil at))
short-strip a (b ∷ []) zero less = refl
short-strip a (b ∷ []) (suc zero) less = refl
short-strip a (b ∷ []) (suc (suc at)) less = ap (λ (xs : List ℕ). strip_bom (a ∷ b ∷ xs)) (take-nil at) ∙ ap (λ (xs : List ℕ). a ∷ b ∷ xs) (sym (take-nil at))
short-strip a (b ∷ c ∷ rest) at less = absurd (omega (arith, less))

-- a byte order mark stays before what is taken behind it
strip-take : (file : List ℕ) (at n : ℕ) → n ≡ bom_length file + at → strip_bom (take n file) ≡ take at (drop (bom_length file) file)
unfolding strip_bom bom_length
strip-take [] at n e = ap strip_bom (take-nil n) ∙ sym (take-nil at)
strip-take (a ∷ []) at n e =
    let is : n ≡ 0 + at = e in
    let same : n ≡ at = omega (arith, is) in
    ap (λ (m : ℕ). strip_bom (take m (a ∷ []))) same ∙ short-strip a [] at (omega arith)
strip-take (a ∷ b ∷ []) at n e =
    let is : n ≡ 0 + at = e in
    let same : n ≡ at = omega (arith, is) in
    ap (λ (m : ℕ). strip_bom (take m (a ∷ b ∷ []))) same ∙ short-strip a (b ∷ []) at (omega arith)
strip-take (a ∷ b ∷ c ∷ rest) at n e =
    elim (cases_Bool (is_bom a b c)) [
      | inl t ↦
          let is : n ≡ 3 + at = rw t at e in
          let same : n ≡ suc (suc (suc at)) = omega (arith, is) in
          rw (t, same) (marked t)
      | inr f ↦
          let is : n ≡ 0 + at = rw f at e in
          let same : n ≡ at = omega (arith, is) in
          rw (f, same) (plain at f)
    ]
  where
    marked : is_bom a b c ≡ true → strip_bom (a ∷ b ∷ c ∷ take at rest) ≡ take at rest
    marked t = rw t refl

    plain : (at : ℕ) → is_bom a b c ≡ false → strip_bom (take at (a ∷ b ∷ c ∷ rest)) ≡ take at (a ∷ b ∷ c ∷ rest)
    plain zero f = refl
    plain (suc zero) f = refl
    plain (suc (suc zero)) f = refl
    plain (suc (suc (suc at))) f = rw f refl

length-behind : (file : List ℕ) (n at : ℕ) → at < length (drop n file) → n + at < length file
length-behind file n at lt = omega (arith, lt, length-drop n file)

drop-behind : (file : List ℕ) (n at : ℕ) → drop at (drop n file) ≡ drop (n + at) file
drop-behind file n at = drop-drop at n file

start-begins : (delimiter i byte : ℕ) (file : List ℕ) → slice_get (starts delimiter file) i ≡ Some byte → BeginsAt delimiter file i byte
start-begins delimiter i byte file is =
    let mark = bom_length file in
    let bytes = drop mark file in
    let w = start-splits delimiter bytes k.Record mark i byte is in
    let before = records (dialect delimiter) (take w.at bytes) in
    let from = records (dialect delimiter) (drop w.at bytes) in
    let all : file_records delimiter file ≡ before ++ from = ap (records (dialect delimiter)) (strip-drop file ∙ sym (take-append-drop w.at bytes)) ∙ cut_behind delimiter (take w.at bytes) (drop w.at bytes) w.stands in
    let few : length before ≡ i = sym (starts-records delimiter mark (take w.at bytes)) ∙ w.before in
    subst (BeginsAt delimiter file i) (sym w.byte_is) (record {
      within = length-behind file mark w.at w.within;
      begins = ap is_line_end (sym (get_or-drop mark file w.at 0)) ∙ w.begins;
      before = ap (records (dialect delimiter)) (strip-take file w.at (mark + w.at) refl) ∙ sym (ap (take i) all ∙ take-front i before from few);
      from = ap (records (dialect delimiter)) (sym (drop-behind file mark w.at)) ∙ sym (ap (drop i) all ∙ drop-front i before from few);
    })

pub each_begins : (delimiter i : ℕ) (file : List ℕ) → IfSome (slice_get (starts delimiter file) i) (BeginsAt delimiter file i)
each_begins delimiter i file = go (slice_get (starts delimiter file) i) (λ byte. start-begins delimiter i byte file)
  where
    go : (found : Option ℕ) → ((byte : ℕ) → found ≡ Some byte → BeginsAt delimiter file i byte) → IfSome found (BeginsAt delimiter file i)
    go None each = tt
    go (Some byte) each = each byte refl
