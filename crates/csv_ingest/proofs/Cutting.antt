-- Where a reader stands, and where a file can be cut.
use Rattle.std.proofs.Common.{◌≡◌, ◌≢◌, ◌<◌, ◌≤◌, ◌+◌, ◌-◌, ◌∙◌, ℕ, List, [], ◌∷◌, ◌++◌, false, length, get_or, take, drop, slice_range, sym, ap, refl, arith, add-one, take-add, drop-drop, inl, inr}
use Rattle.std.proofs.Math.Seq.{drop-cons}
use Rattle.std.proofs.lemmas.List.{get_or-take, take-append-drop, take_more}
use Rattle.std.proofs.lemmas.List.Elements.{All-head, All-tail}
use Rattle.std.proofs.lemmas.Grind.{get_or_default_zero}
use Rattle.std.proofs.lemmas.Bool.{cases_Bool, eq-eqb, ne_eqb}
use Rattle.std.specs.Prelude.{All, if◌then◌else◌, suc, zero}
use Rattle.csv.specs.Reading.{is_bom, strip_bom}
use Rattle.csv_ingest.specs.Pieces.{bom_length}
use Rattle.csv_ingest.specs.Private.Cuts.{AlwaysEndsRecord}
use Rattle.csv_ingest.specs.Stand.{EndsRecord, in_quotes, is_line_end, stand_after, stand_next, unquoted}
use Rattle.csv_ingest.specs.declared.stand.Stand.{Stand}
use Rattle.csv_ingest.specs.declared.stand.Stand.TheVariants as k
use Rattle.memchr.specs.Find.{Passes, is_byte}
use Rattle.csv_ingest.proofs.Stands.{end-other, next-outside, stand-append}

pub slice_range_split : (xs : List ℕ) (i j m : ℕ) → i ≤ j → j ≤ m → slice_range xs i m ≡ slice_range xs i j ++ slice_range xs j m
slice_range_split xs i j m h k =
    let e : m - i ≡ (j - i) + (m - j) = omega arith in
    let f : i + (j - i) ≡ j = omega arith in
    ap (λ n. take n (drop i xs)) e ∙ take-add (j - i) (m - j) (drop i xs)
    ∙ ap (λ t. slice_range xs i j ++ take (m - j) t) (drop-drop (j - i) i xs ∙ ap (λ n. drop n xs) f)

pub slice_range_step : (xs : List ℕ) (i m : ℕ) → i < m → i < length xs → slice_range xs i m ≡ get_or xs i 0 ∷ slice_range xs (i + 1) m
slice_range_step xs i m h within =
    let count : m - i ≡ suc (m - (i + 1)) = omega arith in
    ap (λ n. take n (drop i xs)) count ∙ ap (take (suc (m - (i + 1)))) (drop-cons xs i 0 within)
    ∙ ap (λ n. get_or xs i 0 ∷ take (m - (i + 1)) (drop n xs)) (sym (add-one i))

stand-one : (delimiter : ℕ) (s : Stand) (c : ℕ) → stand_after delimiter s (c ∷ []) ≡ stand_next delimiter s c
unfolding stand_after
stand-one delimiter s c = refl

pub stand-drop : (delimiter : ℕ) (s : Stand) (xs : List ℕ) (i : ℕ) → i < length xs → stand_after delimiter s (drop i xs) ≡ stand_after delimiter (stand_next delimiter s (get_or xs i 0)) (drop (i + 1) xs)
unfolding stand_after
stand-drop delimiter s xs i h = rw (add-one, drop-cons xs i 0) refl

pub stand-nil : (delimiter : ℕ) (s : Stand) → stand_after delimiter s [] ≡ s
unfolding stand_after
stand-nil delimiter s = refl

pub stand-more : (delimiter : ℕ) (s t : Stand) (xs : List ℕ) (i : ℕ) → i < length xs → t ≡ stand_after delimiter s (take i xs) → stand_next delimiter t (get_or xs i 0) ≡ stand_after delimiter s (take (i + 1) xs)
stand-more delimiter s t xs i h e =
    rw (take_more xs i 0 h, stand-append delimiter (take i xs) s (get_or xs i 0 ∷ []), e) (sym (stand-one delimiter (stand_after delimiter s (take i xs)) (get_or xs i 0)))

pub bom-short : (file : List ℕ) → length file < 3 → bom_length file ≡ 0
unfolding bom_length
bom-short [] h = refl
bom-short (a ∷ []) h = refl
bom-short (a ∷ b ∷ []) h = refl
bom-short (a ∷ b ∷ c ∷ file) h = absurd (omega arith)

pub bom-long : (file : List ℕ) → 3 ≤ length file → bom_length file ≡ if is_bom (get_or file 0 0) (get_or file 1 0) (get_or file 2 0) then 3 else 0
unfolding bom_length
bom-long [] h = absurd (omega arith)
bom-long (a ∷ []) h = absurd (omega arith)
bom-long (a ∷ b ∷ []) h = absurd (omega arith)
bom-long (a ∷ b ∷ c ∷ file) h = refl

pub strip-drop : (xs : List ℕ) → strip_bom xs ≡ drop (bom_length xs) xs
unfolding strip_bom bom_length
strip-drop [] = refl
strip-drop (a ∷ []) = refl
strip-drop (a ∷ b ∷ []) = refl
strip-drop (a ∷ b ∷ c ∷ xs) = elim (cases_Bool (is_bom a b c)) [ inl t ↦ rw t refl | inr f ↦ rw f refl ]

strip-more : (xs ys : List ℕ) → 3 ≤ length xs → strip_bom (xs ++ ys) ≡ strip_bom xs ++ ys
unfolding strip_bom
strip-more [] ys h = absurd (omega arith)
strip-more (a ∷ []) ys h = absurd (omega arith)
strip-more (a ∷ b ∷ []) ys h = absurd (omega arith)
strip-more (a ∷ b ∷ c ∷ xs) ys h = elim (cases_Bool (is_bom a b c)) [ inl t ↦ rw t refl | inr f ↦ rw f refl ]

pub stand-behind : (delimiter : ℕ) (before more : List ℕ) → 3 ≤ length before → stand_after delimiter k.Record (strip_bom (before ++ more)) ≡ stand_after delimiter (stand_after delimiter k.Record (strip_bom before)) more
stand-behind delimiter before more h = ap (stand_after delimiter k.Record) (strip-more before more h) ∙ stand-append delimiter (strip_bom before) k.Record more

pub lacks : (xs : List ℕ) (n : ℕ) → n ≤ length xs → ((k : ℕ) → 0 ≤ k → k < n → Passes (is_byte 34) xs k → ⊥) → All (λ c. c ≢ 34) (take n xs)
lacks xs n h none k d within e =
    let inside : k < n = below n xs k h within in
    let here : get_or xs k 0 ≡ 34 = sym (get_or_default_zero xs k d (omega arith)) ∙ sym (get_or-take n xs k d inside) ∙ e in
    none k (omega arith) inside (eq-eqb (get_or xs k 0) 34 here)
  where
    below : (n : ℕ) (xs : List ℕ) (k : ℕ) → n ≤ length xs → k < length (take n xs) → k < n
    below zero xs k h w = w
    below (suc n) [] k h w = absurd (omega arith)
    below (suc n) (x ∷ xs) zero h w = omega arith
    below (suc n) (x ∷ xs) (suc k) h w = let b = below n xs k (omega arith) (omega arith) in omega arith

pub take_all : (xs : List ℕ) → take (length xs) xs ≡ xs
take_all [] = refl
take_all (c ∷ xs) = ap (λ rest. c ∷ rest) (take_all xs)

pub plain-quoted : (delimiter : ℕ) (xs : List ℕ) → All (λ c. c ≢ 34) xs → stand_after delimiter k.Quoted xs ≡ k.Quoted
unfolding stand_after
plain-quoted delimiter [] n = refl
plain-quoted delimiter (c ∷ xs) n = rw (ne_eqb c 34 (All-head (λ d. d ≢ 34) c xs n)) (plain-quoted delimiter xs (All-tail (λ d. d ≢ 34) c xs n))

plain-one : (delimiter : ℕ) (s : Stand) (c : ℕ) → is_line_end delimiter ≡ false → c ≢ 34 → in_quotes s ≡ false → stand_next delimiter s c ≡ unquoted delimiter c
plain-one delimiter k.Record c free n q =
    elim (cases_Bool (is_line_end c)) [
      | inl ends ↦ rw (ends, end-other delimiter c free ends) refl
      | inr other ↦ rw (other, ne_eqb c 34 n) refl
    ]
plain-one delimiter k.Fresh c free n q = rw (ne_eqb c 34 n) refl
plain-one delimiter k.Bare c free n q = refl
plain-one delimiter k.Quoted c free n q = cc q

pub plain-last : (delimiter : ℕ) (xs : List ℕ) (s : Stand) → is_line_end delimiter ≡ false → All (λ c. c ≢ 34) xs → in_quotes s ≡ false → 0 < length xs
    → stand_after delimiter s xs ≡ unquoted delimiter (get_or xs (length xs - 1) 0)
unfolding stand_after
plain-last delimiter [] s free n q h = absurd (omega arith)
plain-last delimiter (c ∷ []) s free n q h = plain-one delimiter s c free (All-head (λ d. d ≢ 34) c [] n) q
plain-last delimiter (c ∷ d ∷ xs) s free n q h =
    let less : length (c ∷ d ∷ xs) - 1 ≡ suc (length (d ∷ xs) - 1) = omega arith in
    plain-last delimiter (d ∷ xs) (stand_next delimiter s c) free (All-tail (λ d. d ≢ 34) c (d ∷ xs) n)
    (next-outside delimiter s c (All-head (λ d. d ≢ 34) c (d ∷ xs) n) q) (omega arith)
    ∙ ap (λ i. unquoted delimiter (get_or (c ∷ d ∷ xs) i 0)) (sym less)

pub plain-none : (delimiter : ℕ) (xs : List ℕ) (s : Stand) → length xs ≡ 0 → stand_after delimiter s xs ≡ s
plain-none delimiter [] s e = stand-nil delimiter s
plain-none delimiter (c ∷ xs) s e = absurd (omega arith)

pub stand-run : (delimiter : ℕ) (s : Stand) (xs : List ℕ) (at : ℕ) → at < length xs → get_or xs at 0 ≡ 34 → stand_after delimiter s xs ≡ stand_after delimiter (stand_next delimiter (stand_after delimiter s (take at xs)) 34) (drop (at + 1) xs)
stand-run delimiter s xs at h e =
    ap (stand_after delimiter s) (sym (take-append-drop at xs)) ∙ stand-append delimiter (take at xs) s (drop at xs)
    ∙ stand-drop delimiter (stand_after delimiter s (take at xs)) xs at h
    ∙ ap (λ c. stand_after delimiter (stand_next delimiter (stand_after delimiter s (take at xs)) c) (drop (at + 1) xs)) e

-- a reader goes on from the start of a record as from that of another field
fresh-record : (delimiter c : ℕ) → is_line_end delimiter ≡ false → stand_next delimiter k.Fresh c ≡ stand_next delimiter k.Record c
fresh-record delimiter c free =
    elim (cases_Bool (is_line_end c)) [
      | inl ends ↦ rw (end-other 34 c refl ends, end-other delimiter c free ends, ends) refl
      | inr other ↦ rw other refl
    ]

-- three beginnings stand for all
pub ends_all : (delimiter : ℕ) (xs : List ℕ) → is_line_end delimiter ≡ false → EndsRecord delimiter k.Record xs → EndsRecord delimiter k.Bare xs → EndsRecord delimiter k.Quoted xs
    → AlwaysEndsRecord delimiter xs
unfolding stand_after
ends_all delimiter xs free a b c k.Record = a
ends_all delimiter [] free a b c k.Fresh = fresh-record delimiter 10 free ∙ a
ends_all delimiter (x ∷ xs) free a b c k.Fresh = ap (λ s. stand_next delimiter (stand_after delimiter s xs) 10) (fresh-record delimiter x free) ∙ a
ends_all delimiter xs free a b c k.Bare = b
ends_all delimiter xs free a b c k.Quoted = c
