-- The records of a text in one walk over its bytes, with no number of turns.
use Rattle.std.proofs.Common.{◌≡◌, ◌≤◌, ◌∙◌, ℕ, List, [], ◌∷◌, ◌++◌, Bool, true, false, Option, Some, None, length, ap, refl, arith, add-one}
use Rattle.std.specs.Prelude.{◌==◌, ◌||◌, if◌then◌else◌, suc, zero, ⊤}
use Rattle.csv.specs.Machine.{Read, after_end, ends_at_end, ends_with, field_after, fields_after, in_field, is_end, next_record, start_field, start_record, step}
use Rattle.csv.specs.Reading.{records, records_from, records_next}
use Rattle.csv.specs.declared.parser.Action.{Action}
use Rattle.csv.specs.declared.parser.Action.TheVariants as act
use Rattle.csv.specs.declared.parser.State.{State}
use Rattle.csv.specs.declared.parser.State.TheVariants as st
use Rattle.csv_ingest.specs.KeyFile.{Record, dialect}
use Rattle.csv_ingest.specs.Private.Walk.{walk}

-- the state after these bytes
unfoldable pub state_after : ℕ → State → List ℕ → State
state_after delimiter s [] = s
state_after delimiter s (c ∷ rest) = state_after delimiter (step (dialect delimiter) s c).0 rest

none_left : (delimiter n : ℕ) → records_from (dialect delimiter) n st.StartRecord [] ≡ []
unfolding records_from next_record
none_left delimiter zero = refl
none_left delimiter (suc n) = refl

at_end : (delimiter n : ℕ) (b : Bool) (row : Record)
    → records_next (records_from (dialect delimiter) n) (if b then Some (row, st.StartRecord, []) else None) ≡ if b then row ∷ [] else []
at_end delimiter n true row = ap (λ rest. row ∷ rest) (none_left delimiter n)
at_end delimiter n false row = refl

next_or_more : (delimiter n : ℕ) (b : Bool) (p : Read) (o : Option Read) (x y : List Record) → records_next (records_from (dialect delimiter) n) (Some p) ≡ x
    → records_next (records_from (dialect delimiter) n) o ≡ y → records_next (records_from (dialect delimiter) n) (if b then Some p else o) ≡ if b then x else y
next_or_more delimiter n true p o x y h k = h
next_or_more delimiter n false p o x y h k = k

-- turns enough for a text
abbrev pub Walks : ℕ → State → List (List ℕ) → List ℕ → List ℕ → Type 0
Walks delimiter s fields field y = (n : ℕ) → length y ≤ n → records_next (records_from (dialect delimiter) n) (next_record (dialect delimiter) s fields field y) ≡ walk delimiter s fields field y

one_turn : (delimiter n : ℕ) (s : State) (y : List ℕ) → Walks delimiter s [] [] y → suc (length y) ≤ n → records_from (dialect delimiter) n s y ≡ walk delimiter s [] [] y
unfolding records_from
one_turn delimiter zero s y walks h = absurd (omega arith)
one_turn delimiter (suc n) s y walks h = walks n (omega arith)

pub walks : (delimiter : ℕ) (y : List ℕ) (s : State) (fields : List (List ℕ)) (field : List ℕ) → Walks delimiter s fields field y
unfolding next_record walk
walks delimiter [] s fields field n h = at_end delimiter n (ends_at_end s) (fields ++ (field ∷ []))
walks delimiter (c ∷ y) s fields field n h =
    next_or_more delimiter n (is_end (step (dialect delimiter) s c).1) (fields_after (step (dialect delimiter) s c).1 fields field, (step (dialect delimiter) s c).0, y) _ _ _
    (ap (λ rest. fields_after (step (dialect delimiter) s c).1 fields field ∷ rest) (one_turn delimiter n (step (dialect delimiter) s c).0 y (walks delimiter y (step (dialect delimiter) s c).0 [] []) h))
    (walks delimiter y (step (dialect delimiter) s c).0 (fields_after (step (dialect delimiter) s c).1 fields field) (field_after (step (dialect delimiter) s c).1 c field) n (omega arith))

pub records-walk : (delimiter : ℕ) (y : List ℕ) → records (dialect delimiter) y ≡ walk delimiter st.StartRecord [] [] y
unfolding records_from
records-walk delimiter y = rw add-one (walks delimiter y st.StartRecord [] [] (length y) (omega arith))

-- where no record is begun, there is no field
abbrev pub Holds : State → List (List ℕ) → List ℕ → Type 0
Holds st.StartRecord fields field = (fields ≡ []) × (field ≡ [])
Holds st.AfterCr fields field = (fields ≡ []) × (field ≡ [])
Holds st.InComment fields field = (fields ≡ []) × (field ≡ [])
Holds st.StartField fields field = ⊤
Holds st.InField fields field = ⊤
Holds st.InQuoted fields field = ⊤
Holds st.AfterQuote fields field = ⊤
Holds st.InEscape fields field = ⊤

pub holds-none : (s : State) → Holds s [] []
holds-none st.StartRecord = (refl, refl)
holds-none st.AfterCr = (refl, refl)
holds-none st.InComment = (refl, refl)
holds-none st.StartField = tt
holds-none st.InField = tt
holds-none st.InQuoted = tt
holds-none st.AfterQuote = tt
holds-none st.InEscape = tt

-- a step that ends no record keeps that
abbrev pub KeepsHolding : List (List ℕ) → List ℕ → ℕ → State × Action → Type 0
KeepsHolding fields field c p = is_end p.1 ≡ false → Holds p.0 (fields_after p.1 fields field) (field_after p.1 c field)

choose : (fields : List (List ℕ)) (field : List ℕ) (c : ℕ) (b : Bool) (p q : State × Action) → KeepsHolding fields field c p → KeepsHolding fields field c q
    → KeepsHolding fields field c (if b then p else q)
choose fields field c true p q h k = h
choose fields field c false p q h k = k

in_field-holds : (delimiter : ℕ) (fields : List (List ℕ)) (field : List ℕ) (c : ℕ) → KeepsHolding fields field c (in_field (dialect delimiter) c)
in_field-holds delimiter fields field c =
    choose fields field c (c == delimiter) (st.StartField, act.EndField) (if ends_with (dialect delimiter).terminator c then (after_end (dialect delimiter).terminator c, act.EndRecord) else (st.InField, act.Copy))
    (λ e. tt)
    (choose fields field c (ends_with (dialect delimiter).terminator c) (after_end (dialect delimiter).terminator c, act.EndRecord) (st.InField, act.Copy) (λ e. cc e) (λ e. tt))

start_field-holds : (delimiter : ℕ) (fields : List (List ℕ)) (field : List ℕ) (c : ℕ) → KeepsHolding fields field c (start_field (dialect delimiter) c)
start_field-holds delimiter fields field c =
    choose fields field c (c == 34) (st.InQuoted, act.Skip) (in_field (dialect delimiter) c) (λ e. tt) (in_field-holds delimiter fields field c)

start_record-holds : (delimiter : ℕ) (fields : List (List ℕ)) (field : List ℕ) (c : ℕ) → (fields ≡ []) × (field ≡ []) → KeepsHolding fields field c (start_record (dialect delimiter) c)
start_record-holds delimiter fields field c h =
    choose fields field c (ends_with (dialect delimiter).terminator c) (st.StartRecord, act.Skip) (start_field (dialect delimiter) c) (λ e. h) (start_field-holds delimiter fields field c)

pub step-holds : (delimiter : ℕ) (s : State) (fields : List (List ℕ)) (field : List ℕ) (c : ℕ) → Holds s fields field → KeepsHolding fields field c (step (dialect delimiter) s c)
step-holds delimiter st.StartRecord fields field c h = start_record-holds delimiter fields field c h
step-holds delimiter st.AfterCr fields field c h =
    choose fields field c (c == 10) (st.StartRecord, act.Skip) (start_record (dialect delimiter) c) (λ e. h) (start_record-holds delimiter fields field c h)
step-holds delimiter st.InComment fields field c h = choose fields field c (c == 10) (st.StartRecord, act.Skip) (st.InComment, act.Skip) (λ e. h) (λ e. h)
step-holds delimiter st.StartField fields field c h = start_field-holds delimiter fields field c
step-holds delimiter st.InField fields field c h = in_field-holds delimiter fields field c
step-holds delimiter st.InQuoted fields field c h = choose fields field c (c == 34) (st.AfterQuote, act.Skip) (st.InQuoted, act.Copy) (λ e. tt) (λ e. tt)
step-holds delimiter st.AfterQuote fields field c h = choose fields field c (c == 34) (st.InQuoted, act.Copy) (in_field (dialect delimiter) c) (λ e. tt) (in_field-holds delimiter fields field c)
step-holds delimiter st.InEscape fields field c h = λ e. tt

pub append_if : (b : Bool) (x y x2 y2 z : List Record) → x ≡ x2 ++ z → (b ≡ false → y ≡ y2 ++ z) → (if b then x else y) ≡ (if b then x2 else y2) ++ z
append_if true x y x2 y2 z h k = h
append_if false x y x2 y2 z h k = k refl

behind_none : (delimiter : ℕ) (s : State) (fields : List (List ℕ)) (field b : List ℕ) → Holds s fields field → ends_at_end s ≡ false
    → walk delimiter s fields field b ≡ walk delimiter s fields field [] ++ walk delimiter s [] [] b
unfolding walk
behind_none delimiter st.StartRecord fields field b h e = rw (h.0, h.1) refl
behind_none delimiter st.AfterCr fields field b h e = rw (h.0, h.1) refl
behind_none delimiter st.InComment fields field b h e = cc e
behind_none delimiter st.StartField fields field b h e = cc e
behind_none delimiter st.InField fields field b h e = cc e
behind_none delimiter st.InQuoted fields field b h e = cc e
behind_none delimiter st.AfterQuote fields field b h e = cc e
behind_none delimiter st.InEscape fields field b h e = cc e

walk-append : (delimiter : ℕ) (a : List ℕ) (s : State) (fields : List (List ℕ)) (field b : List ℕ) → Holds s fields field → ends_at_end (state_after delimiter s a) ≡ false
    → walk delimiter s fields field (a ++ b) ≡ walk delimiter s fields field a ++ walk delimiter (state_after delimiter s a) [] [] b
unfolding walk state_after
walk-append delimiter [] s fields field b h e = behind_none delimiter s fields field b h e
walk-append delimiter (c ∷ a) s fields field b h e =
    append_if (is_end (step (dialect delimiter) s c).1) _ _ _ _ _
    (ap (λ rest. fields_after (step (dialect delimiter) s c).1 fields field ∷ rest) (walk-append delimiter a (step (dialect delimiter) s c).0 [] [] b (holds-none (step (dialect delimiter) s c).0) e))
    (λ more. walk-append delimiter a (step (dialect delimiter) s c).0 (fields_after (step (dialect delimiter) s c).1 fields field) (field_after (step (dialect delimiter) s c).1 c field) b (step-holds delimiter s fields field c h more) e)

-- after a carriage return each byte does what it does at the start of a record
same_step : (r n : Bool) (x y : State × Action) → (if n then x else if r || n then x else y) ≡ if r || n then x else y
same_step true true x y = refl
same_step true false x y = refl
same_step false true x y = refl
same_step false false x y = refl

pub after_cr-step : (delimiter c : ℕ) → step (dialect delimiter) st.AfterCr c ≡ step (dialect delimiter) st.StartRecord c
after_cr-step delimiter c = same_step (c == 13) (c == 10) (st.StartRecord, act.Skip) (start_field (dialect delimiter) c)

after_cr : (delimiter : ℕ) (b : List ℕ) → walk delimiter st.AfterCr [] [] b ≡ walk delimiter st.StartRecord [] [] b
unfolding walk
after_cr delimiter [] = refl
after_cr delimiter (c ∷ b) =
    ap (λ (p : State × Action). if is_end p.1 then fields_after p.1 [] [] ∷ walk delimiter p.0 [] [] b else walk delimiter p.0 (fields_after p.1 [] []) (field_after p.1 c []) b) (after_cr-step delimiter c)

-- where no record is begun, the rest reads as a text of its own
pub from_start : (delimiter : ℕ) (s : State) (b : List ℕ) → ends_at_end s ≡ false → walk delimiter s [] [] b ≡ walk delimiter st.StartRecord [] [] b
from_start delimiter st.StartRecord b e = refl
from_start delimiter st.AfterCr b e = after_cr delimiter b
from_start delimiter st.InComment b e = cc e
from_start delimiter st.StartField b e = cc e
from_start delimiter st.InField b e = cc e
from_start delimiter st.InQuoted b e = cc e
from_start delimiter st.AfterQuote b e = cc e
from_start delimiter st.InEscape b e = cc e

-- the records of two texts, where between them csv's machine has begun no record
pub records-append : (delimiter : ℕ) (a b : List ℕ) → ends_at_end (state_after delimiter st.StartRecord a) ≡ false
    → records (dialect delimiter) (a ++ b) ≡ records (dialect delimiter) a ++ records (dialect delimiter) b
records-append delimiter a b e =
    rw (records-walk delimiter (a ++ b), records-walk delimiter a, records-walk delimiter b)
    (walk-append delimiter a st.StartRecord [] [] b (refl, refl) e ∙ ap (λ rest. walk delimiter st.StartRecord [] [] a ++ rest) (from_start delimiter (state_after delimiter st.StartRecord a) b e))
