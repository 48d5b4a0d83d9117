-- What our states say of csv's.
use Rattle.std.proofs.Common.{◌≡◌, ◌≢◌, ◌∙◌, ℕ, List, [], ◌∷◌, ◌++◌, Bool, true, false, true≢false, sym, ap, refl, subst, inl, inr}
use Rattle.std.proofs.lemmas.Bool.{cases_Bool, eqb-true, ne_eqb}
use Rattle.std.specs.Prelude.{◌==◌, ◌||◌, if◌then◌else◌, All}
use Rattle.std.proofs.lemmas.List.Elements.{All-head, All-tail}
use Rattle.csv.specs.Machine.{after_end, ends_at_end, ends_with, field_after, fields_after, in_field, is_end, start_field, start_record, step}
use Rattle.csv.specs.Reading.{records, strip_bom, is_bom}
use Rattle.csv.specs.declared.parser.Action.{Action}
use Rattle.csv.specs.declared.parser.Action.TheVariants as act
use Rattle.csv.specs.declared.parser.State.{State}
use Rattle.csv.specs.declared.parser.State.TheVariants as st
use Rattle.csv_ingest.specs.KeyFile.{dialect}
use Rattle.csv_ingest.specs.Pieces.{file_records}
use Rattle.csv_ingest.specs.Stand.{EndsRecord, IsCut, field_begun, in_quotes, is_line_end, stand_after, stand_next, unquoted}
use Rattle.csv_ingest.specs.declared.stand.Stand.{Stand}
use Rattle.csv_ingest.specs.declared.stand.Stand.TheVariants as k
use Rattle.csv_ingest.specs.Private.Walk.{walk}
use Rattle.csv_ingest.proofs.Walk.{Holds, append_if, holds-none, records-append, records-walk, state_after, step-holds}

-- our state, of each of csv's that its default dialect reaches, with any delimiter
abbrev pub Sees : State → Stand → Type 0
Sees st.StartRecord s = s ≡ k.Record
Sees st.AfterCr s = s ≡ k.Record
Sees st.StartField s = s ≡ k.Fresh
Sees st.AfterQuote s = s ≡ k.Fresh
Sees st.InField s = s ≡ k.Bare
Sees st.InQuoted s = s ≡ k.Quoted
Sees st.InEscape s = ⊥
Sees st.InComment s = ⊥

choose : (b : Bool) (p q : State × Action) (x y : Stand) → Sees p.0 x → Sees q.0 y → Sees (if b then p else q).0 (if b then x else y)
choose true p q x y h k = h
choose false p q x y h k = k

after_end-sees : (b : Bool) → Sees (if b then st.AfterCr else st.StartRecord) k.Record
after_end-sees true = refl
after_end-sees false = refl

in_field-sees : (delimiter c : ℕ) → Sees (in_field (dialect delimiter) c).0 (unquoted delimiter c)
in_field-sees delimiter c =
    choose (c == delimiter) (st.StartField, act.EndField) (if ends_with (dialect delimiter).terminator c then (after_end (dialect delimiter).terminator c, act.EndRecord) else (st.InField, act.Copy))
    k.Fresh (if (c == 13) || (c == 10) then k.Record else k.Bare) refl
    (choose (ends_with (dialect delimiter).terminator c) (after_end (dialect delimiter).terminator c, act.EndRecord) (st.InField, act.Copy) k.Record k.Bare (after_end-sees (c == 13)) refl)

start_field-sees : (delimiter c : ℕ) → Sees (start_field (dialect delimiter) c).0 (field_begun delimiter c)
start_field-sees delimiter c =
    choose (c == 34) (st.InQuoted, act.Skip) (in_field (dialect delimiter) c) k.Quoted (unquoted delimiter c) refl (in_field-sees delimiter c)

start_record-sees : (delimiter c : ℕ) → Sees (start_record (dialect delimiter) c).0 (stand_next delimiter k.Record c)
start_record-sees delimiter c =
    choose (is_line_end c) (st.StartRecord, act.Skip) (start_field (dialect delimiter) c) k.Record (field_begun delimiter c) refl (start_field-sees delimiter c)

pub step-sees : (delimiter : ℕ) (s : State) (x : Stand) (c : ℕ) → Sees s x → Sees (step (dialect delimiter) s c).0 (stand_next delimiter x c)
step-sees delimiter st.StartRecord x c e = rw e (start_record-sees delimiter c)
step-sees delimiter st.AfterCr x c e =
    elim (cases_Bool (c == 10)) [
      | inl lf ↦ rw e (subst (λ (z : ℕ). Sees (step (dialect delimiter) st.AfterCr z).0 (stand_next delimiter k.Record z)) (sym (eqb-true c 10 lf)) refl)
      | inr not_lf ↦
          let same : step (dialect delimiter) st.AfterCr c ≡ start_record (dialect delimiter) c = rw not_lf refl in
          rw (e, same) (start_record-sees delimiter c)
    ]
step-sees delimiter st.StartField x c e = rw e (start_field-sees delimiter c)
step-sees delimiter st.AfterQuote x c e =
    rw e (choose (c == 34) (st.InQuoted, act.Copy) (in_field (dialect delimiter) c) k.Quoted (unquoted delimiter c) refl (in_field-sees delimiter c))
step-sees delimiter st.InField x c e = rw e (in_field-sees delimiter c)
step-sees delimiter st.InQuoted x c e = rw e (choose (c == 34) (st.AfterQuote, act.Skip) (st.InQuoted, act.Copy) k.Fresh k.Quoted refl refl)
step-sees delimiter st.InEscape x c e = absurd e
step-sees delimiter st.InComment x c e = absurd e

after-sees : (delimiter : ℕ) (a : List ℕ) (s : State) (x : Stand) → Sees s x → Sees (state_after delimiter s a) (stand_after delimiter x a)
unfolding state_after stand_after
after-sees delimiter [] s x e = e
after-sees delimiter (c ∷ a) s x e = after-sees delimiter a (step (dialect delimiter) s c).0 (stand_next delimiter x c) (step-sees delimiter s x c e)

sees_record : (s : State) (x : Stand) → Sees s x → x ≡ k.Record → ends_at_end s ≡ false
sees_record st.StartRecord x e r = refl
sees_record st.AfterCr x e r = refl
sees_record st.StartField x e r = cc (sym e ∙ r)
sees_record st.AfterQuote x e r = cc (sym e ∙ r)
sees_record st.InField x e r = cc (sym e ∙ r)
sees_record st.InQuoted x e r = cc (sym e ∙ r)
sees_record st.InEscape x e r = absurd e
sees_record st.InComment x e r = absurd e

-- behind the end of a record a file can be cut
pub cut_behind : (delimiter : ℕ) (a b : List ℕ) → stand_after delimiter k.Record a ≡ k.Record → records (dialect delimiter) (a ++ b) ≡ records (dialect delimiter) a ++ records (dialect delimiter) b
cut_behind delimiter a b e = records-append delimiter a b (sees_record _ _ (after-sees delimiter a st.StartRecord k.Record refl) e)

-- a line feed that ends a record is no delimiter
feed-ends : (delimiter : ℕ) → unquoted delimiter 10 ≡ k.Record → (10 == delimiter) ≡ false
feed-ends delimiter ends = go (10 == delimiter) ends
  where
    go : (b : Bool) → (if b then k.Fresh else k.Record) ≡ k.Record → b ≡ false
    go true e = cc e
    go false e = refl

line_end : (delimiter : ℕ) (s : State) (x : Stand) (fields : List (List ℕ)) (field b : List ℕ) → Sees s x → stand_next delimiter x 10 ≡ k.Record → Holds s fields field
    → walk delimiter s fields field (10 ∷ b) ≡ walk delimiter s fields field [] ++ walk delimiter st.StartRecord [] [] b
unfolding walk
line_end delimiter st.StartRecord x fields field b e q h = rw (h.0, h.1) refl
line_end delimiter st.AfterCr x fields field b e q h = rw (h.0, h.1) refl
line_end delimiter st.StartField x fields field b e q h = rw (feed-ends delimiter (rw e at q)) refl
line_end delimiter st.AfterQuote x fields field b e q h = rw (feed-ends delimiter (rw e at q)) refl
line_end delimiter st.InField x fields field b e q h = rw (feed-ends delimiter (rw e at q)) refl
line_end delimiter st.InQuoted x fields field b e q h = cc (rw e at q)
line_end delimiter st.InEscape x fields field b e q h = absurd e
line_end delimiter st.InComment x fields field b e q h = absurd e

walk-line : (delimiter : ℕ) (a : List ℕ) (s : State) (x : Stand) (fields : List (List ℕ)) (field b : List ℕ) → Sees s x → EndsRecord delimiter x a → Holds s fields field
    → walk delimiter s fields field (a ++ 10 ∷ b) ≡ walk delimiter s fields field a ++ walk delimiter st.StartRecord [] [] b
unfolding walk stand_after
walk-line delimiter [] s x fields field b e q h = line_end delimiter s x fields field b e q h
walk-line delimiter (c ∷ a) s x fields field b e q h =
    append_if (is_end (step (dialect delimiter) s c).1) _ _ _ _ _
    (ap (λ rest. fields_after (step (dialect delimiter) s c).1 fields field ∷ rest)
    (walk-line delimiter a (step (dialect delimiter) s c).0 (stand_next delimiter x c) [] [] b (step-sees delimiter s x c e) q (holds-none (step (dialect delimiter) s c).0)))
    (λ more. walk-line delimiter a (step (dialect delimiter) s c).0 (stand_next delimiter x c) (fields_after (step (dialect delimiter) s c).1 fields field) (field_after (step (dialect delimiter) s c).1 c field) b
    (step-sees delimiter s x c e) q (step-holds delimiter s fields field c h more))

blank : (delimiter : ℕ) (b : List ℕ) → walk delimiter st.StartRecord [] [] (10 ∷ b) ≡ walk delimiter st.StartRecord [] [] b
unfolding walk
blank delimiter b = refl

-- before a line feed that ends a record a file can be cut
pub cut_before : (delimiter : ℕ) (a b : List ℕ) → IsCut delimiter a
    → records (dialect delimiter) (a ++ 10 ∷ b) ≡ records (dialect delimiter) a ++ records (dialect delimiter) (10 ∷ b)
cut_before delimiter a b q =
    rw (records-walk delimiter (a ++ 10 ∷ b), records-walk delimiter a, records-walk delimiter (10 ∷ b), blank delimiter b) (walk-line delimiter a st.StartRecord k.Record [] [] b refl q (refl, refl))

-- a delimiter that ends no line is none of those that do
pub end-other : (delimiter c : ℕ) → is_line_end delimiter ≡ false → is_line_end c ≡ true → (c == delimiter) ≡ false
end-other delimiter c free ends =
    elim (cases_Bool (c == delimiter)) [
      | inl same ↦ absurd (true≢false (sym ends ∙ ap is_line_end (eqb-true c delimiter same) ∙ free))
      | inr other ↦ other
    ]

-- a line feed outside quotes ends a record
outside_ends : (delimiter : ℕ) (x : Stand) → is_line_end delimiter ≡ false → in_quotes x ≡ false → stand_next delimiter x 10 ≡ k.Record
outside_ends delimiter k.Record free q = refl
outside_ends delimiter k.Fresh free q = rw (end-other delimiter 10 free refl) refl
outside_ends delimiter k.Bare free q = rw (end-other delimiter 10 free refl) refl
outside_ends delimiter k.Quoted free q = cc q

pub line-record : (delimiter : ℕ) (a : List ℕ) (x : Stand) → is_line_end delimiter ≡ false → in_quotes (stand_after delimiter x a) ≡ false
    → stand_after delimiter x (a ++ 10 ∷ []) ≡ k.Record
unfolding stand_after
line-record delimiter [] x free q = outside_ends delimiter x free q
line-record delimiter (c ∷ a) x free q = line-record delimiter a (stand_next delimiter x c) free q

unquoted-outside : (p q : Bool) → in_quotes (if p then k.Fresh else if q then k.Record else k.Bare) ≡ false
unquoted-outside true q = refl
unquoted-outside false true = refl
unquoted-outside false false = refl

record-outside : (p : Bool) (x : Stand) → in_quotes x ≡ false → in_quotes (if p then k.Record else x) ≡ false
record-outside true x q = refl
record-outside false x q = q

pub next-outside : (delimiter : ℕ) (x : Stand) (c : ℕ) → c ≢ 34 → in_quotes x ≡ false → in_quotes (stand_next delimiter x c) ≡ false
next-outside delimiter k.Record c n q =
    rw (ne_eqb c 34 n) (record-outside (is_line_end c) (unquoted delimiter c) (unquoted-outside (c == delimiter) (is_line_end c)))
next-outside delimiter k.Fresh c n q = rw (ne_eqb c 34 n) (unquoted-outside (c == delimiter) (is_line_end c))
next-outside delimiter k.Bare c n q = unquoted-outside (c == delimiter) (is_line_end c)
next-outside delimiter k.Quoted c n q = cc q

pub no_quote-outside : (delimiter : ℕ) (a : List ℕ) (x : Stand) → All (λ c. c ≢ 34) a → in_quotes x ≡ false → in_quotes (stand_after delimiter x a) ≡ false
unfolding stand_after
no_quote-outside delimiter [] x n q = q
no_quote-outside delimiter (c ∷ a) x n q = no_quote-outside delimiter a (stand_next delimiter x c) (All-tail (λ d. d ≢ 34) c a n) (next-outside delimiter x c (All-head (λ d. d ≢ 34) c a n) q)

-- behind a line feed, where no double quote stands before it, a file can be cut
pub cut_without_quotes : (delimiter : ℕ) (a b : List ℕ) → is_line_end delimiter ≡ false → All (λ c. c ≢ 34) a
    → records (dialect delimiter) ((a ++ 10 ∷ []) ++ b) ≡ records (dialect delimiter) (a ++ 10 ∷ []) ++ records (dialect delimiter) b
cut_without_quotes delimiter a b free n = cut_behind delimiter (a ++ 10 ∷ []) b (line-record delimiter a k.Record free (no_quote-outside delimiter a k.Record n refl))

pub line-no_bom : (b : List ℕ) → strip_bom (10 ∷ b) ≡ 10 ∷ b
unfolding strip_bom
line-no_bom [] = refl
line-no_bom (x ∷ []) = refl
line-no_bom (x ∷ y ∷ b) = refl

drop_if : (t : Bool) (x y z : List ℕ) → (if t then x ++ z else y ++ z) ≡ (if t then x else y) ++ z
drop_if true x y z = refl
drop_if false x y z = refl

pub bom-before : (a b : List ℕ) → strip_bom (a ++ 10 ∷ b) ≡ strip_bom a ++ 10 ∷ b
unfolding strip_bom
bom-before [] b = line-no_bom b
bom-before (x ∷ []) [] = refl
bom-before (x ∷ []) (y ∷ b) = elim (cases_Bool (x == 0xEF)) [ inl t ↦ rw t refl | inr f ↦ rw f refl ]
bom-before (x ∷ y ∷ []) b =
    elim (cases_Bool (x == 0xEF)) [
      | inl t ↦ elim (cases_Bool (y == 0xBB)) [ inl u ↦ rw (t, u) refl | inr g ↦ rw (t, g) refl ]
      | inr f ↦ rw f refl
    ]
bom-before (x ∷ y ∷ z ∷ a) b = drop_if (is_bom x y z) a (x ∷ y ∷ z ∷ a) (10 ∷ b)

-- the records of a file that is cut before a line feed, where each piece is a file of its own
pub cut_file : (delimiter : ℕ) (a b : List ℕ) → IsCut delimiter (strip_bom a) → file_records delimiter (a ++ 10 ∷ b) ≡ file_records delimiter a ++ file_records delimiter (10 ∷ b)
cut_file delimiter a b q = rw (bom-before a b, line-no_bom b) (cut_before delimiter (strip_bom a) b q)

pub stand-append : (delimiter : ℕ) (a : List ℕ) (s : Stand) (b : List ℕ) → stand_after delimiter s (a ++ b) ≡ stand_after delimiter (stand_after delimiter s a) b
unfolding stand_after
stand-append delimiter [] s b = refl
stand-append delimiter (c ∷ a) s b = stand-append delimiter a (stand_next delimiter s c) b
