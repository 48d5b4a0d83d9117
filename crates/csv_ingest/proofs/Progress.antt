-- Each record takes at least a byte, and leaves the reader between two records.
use Rattle.std.proofs.Common.{◌≡◌, ◌+◌, ◌<◌, ◌≤◌, ◌∙◌, ℕ, List, [], ◌∷◌, ◌++◌, Bool, true, false, Option, Some, None, length, sym, ap, refl, inl, inr, arith, add-one, subst}
use Rattle.std.specs.Prelude.{◌==◌, if◌then◌else◌, suc, zero}
use Rattle.std.specs.Bool.{MatchBool}
use Rattle.csv.specs.Machine.{Read, after_end, ends_at_end, ends_with, field_after, fields_after, in_field, is_end, next_record, start_field, start_record, step}
use Rattle.csv.specs.Reading.{NextIs, ReadRecord, ReadsNext, pending_of, source_of, records_from, records_next}
use Rattle.csv.specs.declared.parser.Action.{Action}
use Rattle.csv.specs.declared.parser.Action.TheVariants as act
use Rattle.csv.specs.declared.parser.State.{State}
use Rattle.csv.specs.declared.parser.State.TheVariants as st
use Rattle.csv_ingest.specs.KeyFile.{Record, dialect}
use Rattle.csv.specs.declared.reader.Reader.{Reader}
use Rattle.csv_ingest.specs.Records.{IsBetween, ReadsRecords, records_at, records_left}

-- a step that ends a record stands between two
abbrev pub EndsBetween : State × Action → Type 0
EndsBetween p = is_end p.1 ≡ true → IsBetween p.0

choose : (b : Bool) (p q : State × Action) → EndsBetween p → EndsBetween q → EndsBetween (if b then p else q)
choose true p q h k = h
choose false p q h k = k

skips : (s : State) → EndsBetween (s, act.Skip)
skips s e = cc e

copies : (s : State) → EndsBetween (s, act.Copy)
copies s e = cc e

ends_field : (s : State) → EndsBetween (s, act.EndField)
ends_field s e = cc e

after_end-between : (b : Bool) → IsBetween (if b then st.AfterCr else st.StartRecord)
after_end-between true = inr refl
after_end-between false = inl refl

in_field-between : (delimiter c : ℕ) → EndsBetween (in_field (dialect delimiter) c)
in_field-between delimiter c =
    choose (c == delimiter) (st.StartField, act.EndField) (if ends_with (dialect delimiter).terminator c then (after_end (dialect delimiter).terminator c, act.EndRecord) else (st.InField, act.Copy))
    (ends_field st.StartField)
    (choose (ends_with (dialect delimiter).terminator c) (after_end (dialect delimiter).terminator c, act.EndRecord) (st.InField, act.Copy) (λ _. after_end-between (c == 13)) (copies st.InField))

start_field-between : (delimiter c : ℕ) → EndsBetween (start_field (dialect delimiter) c)
start_field-between delimiter c = choose (c == 34) (st.InQuoted, act.Skip) (in_field (dialect delimiter) c) (skips st.InQuoted) (in_field-between delimiter c)

start_record-between : (delimiter c : ℕ) → EndsBetween (start_record (dialect delimiter) c)
start_record-between delimiter c = choose (ends_with (dialect delimiter).terminator c) (st.StartRecord, act.Skip) (start_field (dialect delimiter) c) (skips st.StartRecord) (start_field-between delimiter c)

pub step-between : (delimiter : ℕ) (s : State) (c : ℕ) → EndsBetween (step (dialect delimiter) s c)
step-between delimiter st.StartRecord c = start_record-between delimiter c
step-between delimiter st.StartField c = start_field-between delimiter c
step-between delimiter st.InField c = in_field-between delimiter c
step-between delimiter st.InQuoted c = choose (c == 34) (st.AfterQuote, act.Skip) (st.InQuoted, act.Copy) (skips st.AfterQuote) (copies st.InQuoted)
step-between delimiter st.InEscape c = copies st.InQuoted
step-between delimiter st.AfterQuote c = choose (c == 34) (st.InQuoted, act.Copy) (in_field (dialect delimiter) c) (copies st.InQuoted) (in_field-between delimiter c)
step-between delimiter st.InComment c = choose (c == 10) (st.StartRecord, act.Skip) (st.InComment, act.Skip) (skips st.StartRecord) (skips st.InComment)
step-between delimiter st.AfterCr c = choose (c == 10) (st.StartRecord, act.Skip) (start_record (dialect delimiter) c) (skips st.StartRecord) (start_record-between delimiter c)

-- what a read of a record leaves
abbrev pub Leaves : ℕ → Option Read → Type 0
Leaves n None = Unit {0}
Leaves n (Some p) = IsBetween p.1 × (length p.2 ≤ n)

leaves_more : (n : ℕ) (o : Option Read) → Leaves n o → Leaves (suc n) o
leaves_more n None h = tt
leaves_more n (Some p) h = (h.0, omega (arith, h.1))

leaves_if : (n : ℕ) (b : Bool) (p : Read) (o : Option Read) → (b ≡ true → Leaves n (Some p)) → Leaves n o → Leaves n (if b then Some p else o)
leaves_if n true p o h k = h refl
leaves_if n false p o h k = k

leaves_end : (b : Bool) (p : Read) → Leaves 0 (Some p) → Leaves 0 (if b then Some p else None)
leaves_end true p h = h
leaves_end false p h = tt

pub next-leaves : (delimiter : ℕ) (s : State) (fields : List (List ℕ)) (field : List ℕ) (xs : List ℕ) → Leaves (length xs) (next_record (dialect delimiter) s fields field xs)
unfolding next_record
next-leaves delimiter s fields field [] = leaves_end (ends_at_end s) (fields ++ (field ∷ []), st.StartRecord, []) (inl refl, omega arith)
next-leaves delimiter s fields field (c ∷ xs) =
    leaves_if (length (c ∷ xs)) (is_end (step (dialect delimiter) s c).1) (fields_after (step (dialect delimiter) s c).1 fields field, (step (dialect delimiter) s c).0, xs) _
    (λ e. (step-between delimiter s c e, omega arith))
    (leaves_more (length xs) _ (next-leaves delimiter (step (dialect delimiter) s c).0 (fields_after (step (dialect delimiter) s c).1 fields field) (field_after (step (dialect delimiter) s c).1 c field) xs))

pub next-takes : (delimiter : ℕ) (s : State) (fields : List (List ℕ)) (field : List ℕ) (c : ℕ) (xs : List ℕ) → Leaves (length xs) (next_record (dialect delimiter) s fields field (c ∷ xs))
unfolding next_record
next-takes delimiter s fields field c xs =
    leaves_if (length xs) (is_end (step (dialect delimiter) s c).1) (fields_after (step (dialect delimiter) s c).1 fields field, (step (dialect delimiter) s c).0, xs) _
    (λ e. (step-between delimiter s c e, omega arith))
    (next-leaves delimiter (step (dialect delimiter) s c).0 (fields_after (step (dialect delimiter) s c).1 fields field) (field_after (step (dialect delimiter) s c).1 c field) xs)

pub next-none : (delimiter : ℕ) (s : State) → IsBetween s → next_record (dialect delimiter) s [] [] [] ≡ None
unfolding next_record
next-none delimiter s (inl e) = rw e refl
next-none delimiter s (inr e) = rw e refl

-- the rest of the records, by two numbers of turns that give the same
abbrev pub SameFrom : ℕ → ℕ → ℕ → Type 0
SameFrom delimiter n m = (s : State) (y : List ℕ) → IsBetween s → length y < n → length y < m → records_from (dialect delimiter) n s y ≡ records_from (dialect delimiter) m s y

next_rows : (delimiter n m : ℕ) → SameFrom delimiter n m → (o : Option Read) (k : ℕ) → Leaves k o → k < n → k < m
    → records_next (records_from (dialect delimiter) n) o ≡ records_next (records_from (dialect delimiter) m) o
next_rows delimiter n m same None k h a b = refl
next_rows delimiter n m same (Some p) k h a b = ap (λ rest. p.0 ∷ rest) (same p.1 p.2 h.0 (omega (arith, h.1)) (omega (arith, h.1)))

-- the records of a text do not depend on the number of turns, where there are turns enough
pub records_from-enough : (delimiter n m : ℕ) → SameFrom delimiter n m
unfolding records_from
records_from-enough delimiter zero m s y h a b = absurd (omega arith)
records_from-enough delimiter (suc n) zero s y h a b = absurd (omega arith)
records_from-enough delimiter (suc n) (suc m) s [] h a b = rw (next-none delimiter s h) refl
records_from-enough delimiter (suc n) (suc m) s (c ∷ y) h a b =
    next_rows delimiter n m (records_from-enough delimiter n m) _ (length y) (next-takes delimiter s [] [] c y) (omega arith) (omega arith)

-- what a read of a record tells of the records that were left
abbrev pub TakesFirst : ℕ → List Record → Bool → List (List ℕ) → State → List ℕ → Type 0
TakesFirst delimiter rows found fields s z = MatchBool found (IsBetween s × (rows ≡ fields ∷ records_at (dialect delimiter) s z)) (rows ≡ [])

takes_next : (delimiter : ℕ) (o : Option Read) (n k : ℕ) → Leaves k o → k < n → (found : Bool) (fields : List (List ℕ)) (s : State) (z : List ℕ) → NextIs o found fields s z
    → TakesFirst delimiter (records_next (records_from (dialect delimiter) n) o) found fields s z
takes_next delimiter None n k l h found fields s z e = rw e refl
takes_next delimiter (Some p) n k l h found fields s z e =
    rw (e.0, e.1, e.2, e.3) (l.0, ap (λ rest. p.0 ∷ rest) (records_from-enough delimiter n (length p.2 + 1) p.1 p.2 l.0 (omega (arith, l.1)) (omega arith)))

pub records_at-next : (delimiter : ℕ) (s : State) (y : List ℕ) → records_at (dialect delimiter) s y ≡ records_next (records_from (dialect delimiter) (length y)) (next_record (dialect delimiter) s [] [] y)
unfolding records_from
records_at-next delimiter s y = rw add-one refl

pub records_at-nil : (delimiter : ℕ) (s : State) → IsBetween s → records_at (dialect delimiter) s [] ≡ []
records_at-nil delimiter s b = records_at-next delimiter s [] ∙ ap (λ o. records_next (records_from (dialect delimiter) 0) o) (next-none delimiter s b)

takes_at : (delimiter : ℕ) (s0 : State) (y : List ℕ) → IsBetween s0 → (found : Bool) (fields : List (List ℕ)) (s : State) (z : List ℕ) → NextIs (next_record (dialect delimiter) s0 [] [] y) found fields s z
    → TakesFirst delimiter (records_at (dialect delimiter) s0 y) found fields s z
takes_at delimiter s0 [] b found fields s z e =
    let none : found ≡ false = rw (next-none delimiter s0 b) at e in
    rw none (records_at-nil delimiter s0 b)
takes_at delimiter s0 (c ∷ xs) b found fields s z e =
    subst (λ rows. TakesFirst delimiter rows found fields s z) (sym (records_at-next delimiter s0 (c ∷ xs)))
    (takes_next delimiter (next_record (dialect delimiter) s0 [] [] (c ∷ xs)) (length (c ∷ xs)) (length xs) (next-takes delimiter s0 [] [] c xs) (omega arith) found fields s z e)

pub takes_first : (delimiter : ℕ) (s0 : State) (y : List ℕ) (k : Option (List ℕ)) (found : Bool) (fields : List (List ℕ)) (s : State) → IsBetween s0
    → ReadsNext (dialect delimiter) s0 (Some y) k found fields s
    → (z : List ℕ) × (k ≡ Some z) × TakesFirst delimiter (records_at (dialect delimiter) s0 y) found fields s z
takes_first delimiter s0 y None found fields s b h = absurd h
takes_first delimiter s0 y (Some z) found fields s b h = (z, refl, takes_at delimiter s0 y b found fields s z h)

pub match_map : (b : Bool) {P Q P2 Q2 : Type 0} → MatchBool b P Q → (P → P2) → (Q → Q2) → MatchBool b P2 Q2
match_map true h p q = p h
match_map false h p q = q h

source_after : {R : Type 0} (rem : R → Option (List ℕ)) (new : Reader R) (z : List ℕ) → new.bom_checked ≡ true → pending_of (rem new.rdr) new ≡ Some z
    → source_of rem new ≡ Some z
source_after rem new z begun h = rw begun h

left_of : {R : Type 0} (rem : R → Option (List ℕ)) (s : Reader R) (delimiter : ℕ) (y : List ℕ) → s.config ≡ dialect delimiter → source_of rem s ≡ Some y
    → records_left rem s ≡ records_at (dialect delimiter) s.state y
left_of rem s delimiter y read_in e = rw (read_in, e) refl

-- what a read of a record does to a reader that reads records of any length
pub read_step : {R : Type 0} (rem : R → Option (List ℕ)) (old new : Reader R) (found : Bool) (fields : List (List ℕ)) → ReadsRecords rem old
    → new.first ≡ true → new.flexible ≡ old.flexible → ReadRecord rem old new found fields
    → MatchBool found (ReadsRecords rem new × (records_left rem old ≡ fields ∷ records_left rem new)) (records_left rem old ≡ [])
read_step rem old new found fields r begun flexible read =
    let y = r.known.0 in
    let delimiter = r.in_dialect.0 in
    let read_in : new.config ≡ dialect delimiter = read.2 ∙ r.in_dialect.1 in
    let first = takes_first delimiter old.state y (pending_of (rem new.rdr) new) found fields new.state r.between (rw (r.in_dialect.1, r.known.1) at read.0) in
    let source = source_after rem new first.0 read.1 first.1 in
    match_map found first.2
    (λ h. (
      record {
        untrimmed = read.3 ∙ r.untrimmed;
        ready = inl begun;
        in_dialect = (delimiter, read_in);
        flexible = flexible ∙ r.flexible;
        between = h.0;
        known = (first.0, source);
      },
      left_of rem old delimiter y r.in_dialect.1 r.known.1 ∙ h.1 ∙ ap (λ rest. fields ∷ rest) (sym (left_of rem new delimiter first.0 read_in source)),
    ))
    (λ h. left_of rem old delimiter y r.in_dialect.1 r.known.1 ∙ h)
