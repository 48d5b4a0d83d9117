-- Fields of a text, walked over one after another.
use Rattle.std.proofs.Common.{◌≡◌, ◌≢◌, ◌∙◌, ◌≤◌, ◌<◌, ◌+◌, ◌-◌, ℕ, zero, suc, List, [], ◌∷◌, ◌++◌, Bool, true, false, true≢false, Option, Some, None, Result, Ok, Err, length, length-append, get_or, drop, length-drop, slice_range, sym, subst, take, ap, ap₂, refl, arith, add-one, append-nil, drop-drop, inl, inr}
use Rattle.std.proofs.Math.Seq.{drop-cons}
use Rattle.std.proofs.lemmas.Bool.{cases_Bool, eq-eqb, eqb-true, ne_eqb}
use Rattle.std.proofs.lemmas.List.{append_assoc, get_or-drop, take-append-drop}
use Rattle.std.proofs.lemmas.List.Elements.{All-head, All-tail}
use native.Mathlib.Decide.{dec_lt}
use Rattle.csv.proofs.WriteFacts.{slice-end}
use Rattle.std.proofs.lemmas.Bool.Decides.{eqb_tells}
use Rattle.std.specs.Prelude.{◌==◌, ◌||◌, ◌⊎◌, All, IfOk, OnOk, if◌then◌else◌, suc, zero}
use Rattle.csv.specs.Reading.{is_bom, records, strip_bom}
use Rattle.csv.specs.Records.{field_at}
use Rattle.csv.specs.declared.parser.State.{State}
use Rattle.csv.specs.declared.parser.State.TheVariants as st
use Rattle.csv_ingest.specs.KeyFile.{Record, after_keys, dialect, field_or_lack, key_in, keys_from}
use Rattle.csv_ingest.specs.Pieces.{file_records, piece_keys, bom_length}
use Rattle.csv_ingest.specs.Private.ByteSearch.{HasNone, ends_field}
use Rattle.csv_ingest.specs.Private.Fields.{EndsField, IsLineEnd, IsRow, IsWhole, ReadsField, ReadsKey, ReadsRow, bytes_in, kept, key_of}
use Rattle.csv_ingest.specs.Private.KeyFile.{IsFaultAt, TakesKey}
use Rattle.csv_ingest.specs.Private.Walk.{walk}
use Rattle.csv_ingest.specs.Stand.{is_line_end}
use Rattle.csv_ingest.specs.declared.lack.Lack.TheVariants as l
use Rattle.csv_ingest.specs.declared.scan.Row.{Row}
use Rattle.lane_words.specs.declared.Refusal.{Refusal}
use Rattle.lane_words.specs.declared.Refusal.TheVariants as r
use Rattle.csv_ingest.proofs.Keys.{after_keys-err, after_keys-more, after_keys-ok, keys_from-key, keys_from-lacks, keys_from-nil, keys_from-other}
use Rattle.memchr.specs.Find.{Passes, is_byte}
use Rattle.csv_ingest.proofs.Cutting.{lacks, slice_range_split, slice_range_step, take_all}
use Rattle.csv_ingest.proofs.Walk.{from_start, records-walk}

-- ---- one byte
pub line-end : (c : ℕ) → is_line_end c ≡ true → IsLineEnd c
line-end c e =
    elim (cases_Bool (c == 10)) [
      | inl feed ↦ inl (eqb-true c 10 feed)
      | inr other ↦ inr (eqb-true c 13 (left (c == 13) (c == 10) other e))
    ]
  where
    left : (a b : Bool) → b ≡ false → (a || b) ≡ true → a ≡ true
    left true b other e = refl
    left false b other e = cc (sym other ∙ e)

pub no-line-end : (c : ℕ) → is_line_end c ≡ false → IsLineEnd c → ⊥
no-line-end c e (inl h) = true≢false (subst (λ z. is_line_end z ≡ false) h e)
no-line-end c e (inr h) = true≢false (subst (λ z. is_line_end z ≡ false) h e)

in-delimiter : (delimiter : ℕ) (fields : Record) (field rest : List ℕ) → walk delimiter st.InField fields field (delimiter ∷ rest) ≡ walk delimiter st.StartField (fields ++ field ∷ []) [] rest
unfolding walk
in-delimiter delimiter fields field rest = rw (eq-eqb delimiter delimiter refl) refl

in-end : (delimiter e : ℕ) (fields : Record) (field rest : List ℕ) → e ≢ delimiter → IsLineEnd e
    → walk delimiter st.InField fields field (e ∷ rest) ≡ (fields ++ field ∷ []) ∷ walk delimiter st.StartRecord [] [] rest
unfolding walk
in-end delimiter e fields field rest other (inl h) =
    let unlike : (10 == delimiter) ≡ false = ne_eqb 10 delimiter (subst (λ c. c ≢ delimiter) h other) in
    rw (h, unlike) refl
in-end delimiter e fields field rest other (inr h) =
    let unlike : (13 == delimiter) ≡ false = ne_eqb 13 delimiter (subst (λ c. c ≢ delimiter) h other) in
    rw (h, unlike) (ap (λ rows. (fields ++ field ∷ []) ∷ rows) (from_start delimiter st.AfterCr rest refl))

in-other : (delimiter c : ℕ) (fields : Record) (field rest : List ℕ) → c ≢ delimiter → c ≢ 10 → c ≢ 13 → walk delimiter st.InField fields field (c ∷ rest) ≡ walk delimiter st.InField fields (field ++ c ∷ []) rest
unfolding walk
in-other delimiter c fields field rest d n r = rw (ne_eqb c delimiter d, ne_eqb c 10 n, ne_eqb c 13 r) refl

in-over : (delimiter : ℕ) (fields : Record) (field : List ℕ) → walk delimiter st.InField fields field [] ≡ (fields ++ field ∷ []) ∷ []
unfolding walk
in-over delimiter fields field = refl

-- where quotes may open, any other byte does what it does in a field
field-bare : (delimiter c : ℕ) (fields : Record) (field rest : List ℕ) → c ≢ 34 → walk delimiter st.StartField fields field (c ∷ rest) ≡ walk delimiter st.InField fields field (c ∷ rest)
unfolding walk
field-bare delimiter c fields field rest q = rw (ne_eqb c 34 q) refl

field-quoted : (delimiter : ℕ) (fields : Record) (field rest : List ℕ) → walk delimiter st.StartField fields field (34 ∷ rest) ≡ walk delimiter st.InQuoted fields field rest
unfolding walk
field-quoted delimiter fields field rest = refl

field-over : (delimiter : ℕ) (fields : Record) (field : List ℕ) → walk delimiter st.StartField fields field [] ≡ (fields ++ field ∷ []) ∷ []
unfolding walk
field-over delimiter fields field = refl

quoted-other : (delimiter c : ℕ) (fields : Record) (field rest : List ℕ) → c ≢ 34 → walk delimiter st.InQuoted fields field (c ∷ rest) ≡ walk delimiter st.InQuoted fields (field ++ c ∷ []) rest
unfolding walk
quoted-other delimiter c fields field rest q = rw (ne_eqb c 34 q) refl

quoted-twice : (delimiter : ℕ) (fields : Record) (field rest : List ℕ) → walk delimiter st.InQuoted fields field (34 ∷ 34 ∷ rest) ≡ walk delimiter st.InQuoted fields (field ++ 34 ∷ []) rest
unfolding walk
quoted-twice delimiter fields field rest = refl

quoted-once : (delimiter : ℕ) (fields : Record) (field rest : List ℕ) → walk delimiter st.InQuoted fields field (34 ∷ rest) ≡ walk delimiter st.AfterQuote fields field rest
unfolding walk
quoted-once delimiter fields field rest = refl

quoted-over : (delimiter : ℕ) (fields : Record) (field : List ℕ) → walk delimiter st.InQuoted fields field [] ≡ walk delimiter st.InField fields field []
unfolding walk
quoted-over delimiter fields field = refl

closed-other : (delimiter c : ℕ) (fields : Record) (field rest : List ℕ) → c ≢ 34 → walk delimiter st.AfterQuote fields field (c ∷ rest) ≡ walk delimiter st.InField fields field (c ∷ rest)
unfolding walk
closed-other delimiter c fields field rest q = rw (ne_eqb c 34 q) refl

closed-over : (delimiter : ℕ) (fields : Record) (field : List ℕ) → walk delimiter st.AfterQuote fields field [] ≡ walk delimiter st.InField fields field []
unfolding walk
closed-over delimiter fields field = refl

record-bare : (delimiter c : ℕ) (rest : List ℕ) → c ≢ 10 → c ≢ 13 → walk delimiter st.StartRecord [] [] (c ∷ rest) ≡ walk delimiter st.StartField [] [] (c ∷ rest)
unfolding walk
record-bare delimiter c rest n r = rw (ne_eqb c 10 n, ne_eqb c 13 r) refl

record-end : (delimiter e : ℕ) (rest : List ℕ) → IsLineEnd e → walk delimiter st.StartRecord [] [] (e ∷ rest) ≡ walk delimiter st.StartRecord [] [] rest
unfolding walk
record-end delimiter e rest (inl h) = rw h refl
record-end delimiter e rest (inr h) = rw h refl

record-over : (delimiter : ℕ) → walk delimiter st.StartRecord [] [] [] ≡ []
unfolding walk
record-over delimiter = refl

-- what the end of a field is, and what is none
pub end-here : (delimiter c : ℕ) → ends_field delimiter c ≡ true → (c ≡ delimiter) ⊎ IsLineEnd c
end-here delimiter c e =
    elim (cases_Bool (c == delimiter)) [
      | inl same ↦ inl (eqb-true c delimiter same)
      | inr other ↦ inr (line-end c (right (c == delimiter) (is_line_end c) other e))
    ]
  where
    right : (a b : Bool) → a ≡ false → (a || b) ≡ true → b ≡ true
    right true b other e = absurd (true≢false other)
    right false b other e = e

pub no-end : (delimiter c : ℕ) → ends_field delimiter c ≡ false → (c ≢ delimiter) × (IsLineEnd c → ⊥)
no-end delimiter c e =
    let none = both (c == delimiter) (is_line_end c) e in
    ((λ same. true≢false (sym (eq-eqb c delimiter same) ∙ none.0)), no-line-end c none.1)
  where
    both : (a b : Bool) → (a || b) ≡ false → (a ≡ false) × (b ≡ false)
    both true b e = absurd (true≢false e)
    both false b e = (refl, e)

-- ---- places in a text
no_bytes : (text : List ℕ) → length text ≡ 0 → text ≡ []
no_bytes [] e = refl
no_bytes (c ∷ text) e = absurd (omega (arith, e))

drop-over : (text : List ℕ) (at : ℕ) → length text ≤ at → drop at text ≡ []
drop-over text at e = no_bytes (drop at text) (omega (arith, length-drop at text, e))

next-byte : (text : List ℕ) (at : ℕ) → at < length text → drop at text ≡ get_or text at 0 ∷ drop (at + 1) text
next-byte text at lt = rw add-one (drop-cons text at 0 lt)

none-between : (text : List ℕ) (from to : ℕ) → from ≡ to → slice_range text from to ≡ []
none-between text from to e = let none : to - from ≡ 0 = omega (arith, e) in ap (λ n. take n (drop from text)) none

one-between : (text : List ℕ) (from at : ℕ) → from ≤ at → at < length text → slice_range text from (at + 1) ≡ slice_range text from at ++ get_or text at 0 ∷ []
one-between text from at le lt =
    slice_range_split text from at (at + 1) le (omega arith)
    ∙ ap (λ l. slice_range text from at ++ l) (slice_range_step text at (at + 1) (omega arith) lt ∙ ap (λ l. get_or text at 0 ∷ l) (none-between text (at + 1) (at + 1) refl))

-- ---- a field goes on
-- whatever was read before, these bytes are more of the field at hand
abbrev pub Goes : ℕ → State → State → List ℕ → ℕ → ℕ → List ℕ → Type 0
Goes delimiter s t text at to more = (fields : Record) (field : List ℕ) → walk delimiter s fields field (drop at text) ≡ walk delimiter t fields (field ++ more) (drop to text)

goes-then : (delimiter : ℕ) (s t u : State) (text : List ℕ) (a b c : ℕ) (m n : List ℕ) → Goes delimiter s t text a b m → Goes delimiter t u text b c n → Goes delimiter s u text a c (m ++ n)
goes-then delimiter s t u text a b c m n g h fields field =
    g fields field ∙ h fields (field ++ m) ∙ ap (λ f. walk delimiter u fields f (drop c text)) (append_assoc field m n)

pub bare-step : (delimiter : ℕ) (text : List ℕ) (at i : ℕ) → at ≤ i → i < length text → get_or text i 0 ≢ delimiter → get_or text i 0 ≢ 10 → get_or text i 0 ≢ 13
    → Goes delimiter st.InField st.InField text at i (slice_range text at i) → Goes delimiter st.InField st.InField text at (i + 1) (slice_range text at (i + 1))
bare-step delimiter text at i le lt d n r goes fields field =
    goes fields field
    ∙ ap (walk delimiter st.InField fields (field ++ slice_range text at i)) (next-byte text i lt)
    ∙ in-other delimiter (get_or text i 0) fields (field ++ slice_range text at i) (drop (i + 1) text) d n r
    ∙ ap (λ f. walk delimiter st.InField fields f (drop (i + 1) text))
    (append_assoc field (slice_range text at i) (get_or text i 0 ∷ []) ∙ ap (λ m. field ++ m) (sym (one-between text at i le lt)))

-- bytes that end no field are more of the field at hand
pub bare-run : (delimiter : ℕ) (text : List ℕ) (at n : ℕ) → at + n ≤ length text → HasNone delimiter 13 10 text at (at + n) → Goes delimiter st.InField st.InField text at (at + n) (slice_range text at (at + n))
bare-run delimiter text at zero within none = λ fields field.
    let here : at + zero ≡ at = omega arith in
    ap (λ to. walk delimiter st.InField fields field (drop to text)) (sym here)
    ∙ ap (λ f. walk delimiter st.InField fields f (drop (at + zero) text)) (sym (append-nil field) ∙ ap (λ m. field ++ m) (sym (none-between text at (at + zero) (sym here))))
bare-run delimiter text at (suc n) within none =
    let next : at + n + 1 ≡ at + suc n = omega arith in
    let other = no-end delimiter (get_or text (at + n) 0) (none (at + n) (omega arith) (omega arith)) in
    subst (λ to. Goes delimiter st.InField st.InField text at to (slice_range text at to)) next (
    bare-step delimiter text at (at + n) (omega arith) (omega (arith, within)) other.0 (λ e. other.1 (inl e)) (λ e. other.1 (inr e)) (
    bare-run delimiter text at n (omega (arith, within)) (λ i low high. none i low (omega (arith, high)))
    )
    )

quoted-run : (delimiter : ℕ) (run : List ℕ) (fields : Record) (field rest : List ℕ) → All (λ c. c ≢ 34) run
    → walk delimiter st.InQuoted fields field (run ++ rest) ≡ walk delimiter st.InQuoted fields (field ++ run) rest
quoted-run delimiter [] fields field rest plain = ap (λ f. walk delimiter st.InQuoted fields f rest) (sym (append-nil field))
quoted-run delimiter (c ∷ run) fields field rest plain =
    quoted-other delimiter c fields field (run ++ rest) (All-head (λ b. b ≢ 34) c run plain)
    ∙ quoted-run delimiter run fields (field ++ c ∷ []) rest (All-tail (λ b. b ≢ 34) c run plain)
    ∙ ap (λ f. walk delimiter st.InQuoted fields f rest) (append_assoc field (c ∷ []) run)

goes-quoted : (delimiter : ℕ) (text : List ℕ) (at n : ℕ) → All (λ c. c ≢ 34) (take n (drop at text)) → Goes delimiter st.InQuoted st.InQuoted text at (at + n) (slice_range text at (at + n))
goes-quoted delimiter text at n plain fields field =
    let long : (at + n) - at ≡ n = omega arith in
    ap (walk delimiter st.InQuoted fields field) (sym (take-append-drop n (drop at text)))
    ∙ quoted-run delimiter (take n (drop at text)) fields field (drop n (drop at text)) plain
    ∙ ap₂ (λ f y. walk delimiter st.InQuoted fields f y) (ap (λ k. field ++ take k (drop at text)) (sym long)) (drop-drop n at text)

-- two double quotes in quotes are one byte of the field
goes-twice : (delimiter : ℕ) (text : List ℕ) (quote : ℕ) → quote + 1 < length text → get_or text quote 0 ≡ 34 → get_or text (quote + 1) 0 ≡ 34
    → Goes delimiter st.InQuoted st.InQuoted text quote (quote + 2) (34 ∷ [])
goes-twice delimiter text quote lt first second fields field =
    let behind : drop (quote + 1 + 1) text ≡ drop (quote + 2) text = ap (λ k. drop k text) (omega arith) in
    let one = next-byte text quote (omega (arith, lt)) ∙ ap (λ c. c ∷ drop (quote + 1) text) first in
    let two = next-byte text (quote + 1) lt ∙ ap (λ c. c ∷ drop (quote + 1 + 1) text) second ∙ ap (λ y. 34 ∷ y) behind in
    ap (walk delimiter st.InQuoted fields field) (one ∙ ap (λ y. 34 ∷ y) two) ∙ quoted-twice delimiter fields field (drop (quote + 2) text)

pub quoted-on : (delimiter : ℕ) (text : List ℕ) (at n : ℕ) → at + n + 1 < length text → All (λ c. c ≢ 34) (take n (drop at text)) → get_or text (at + n) 0 ≡ 34 → get_or text (at + n + 1) 0 ≡ 34
    → Goes delimiter st.InQuoted st.InQuoted text at (at + n + 2) (slice_range text at (at + n + 1))
quoted-on delimiter text at n lt plain first second =
    let more : slice_range text at (at + n + 1) ≡ slice_range text at (at + n) ++ 34 ∷ [] =
    one-between text at (at + n) (omega arith) (omega (arith, lt)) ∙ ap (λ c. slice_range text at (at + n) ++ c ∷ []) first in
    rw more
    (goes-then delimiter st.InQuoted st.InQuoted st.InQuoted text at (at + n) (at + n + 2) (slice_range text at (at + n)) (34 ∷ []) (goes-quoted delimiter text at n plain) (goes-twice delimiter text (at + n) lt first second))

-- behind a single one the field goes on without quotes
goes-once : (delimiter : ℕ) (text : List ℕ) (quote : ℕ) → quote < length text → get_or text quote 0 ≡ 34 → (quote + 1 < length text → get_or text (quote + 1) 0 ≡ 34 → ⊥)
    → Goes delimiter st.InQuoted st.InField text quote (quote + 1) []
goes-once delimiter text quote lt first single fields field =
    ap (walk delimiter st.InQuoted fields field) (next-byte text quote lt ∙ ap (λ c. c ∷ drop (quote + 1) text) first)
    ∙ quoted-once delimiter fields field (drop (quote + 1) text)
    ∙ closed
    ∙ ap (λ f. walk delimiter st.InField fields f (drop (quote + 1) text)) (sym (append-nil field))
  where
    closed : walk delimiter st.AfterQuote fields field (drop (quote + 1) text) ≡ walk delimiter st.InField fields field (drop (quote + 1) text)
    closed = elim (dec_lt (quote + 1) (length text)) [
      | yes more ↦
          ap (walk delimiter st.AfterQuote fields field) (next-byte text (quote + 1) more)
          ∙ closed-other delimiter (get_or text (quote + 1) 0) fields field (drop (quote + 1 + 1) text) (single more)
          ∙ ap (walk delimiter st.InField fields field) (sym (next-byte text (quote + 1) more))
      | no over ↦
          let none = drop-over text (quote + 1) (omega (arith, over)) in
          ap (walk delimiter st.AfterQuote fields field) none ∙ closed-over delimiter fields field ∙ ap (walk delimiter st.InField fields field) (sym none)
    ]

pub quoted-end : (delimiter : ℕ) (text : List ℕ) (at n : ℕ) → at + n < length text → All (λ c. c ≢ 34) (take n (drop at text)) → get_or text (at + n) 0 ≡ 34
    → (at + n + 1 < length text → get_or text (at + n + 1) 0 ≡ 34 → ⊥)
    → Goes delimiter st.InQuoted st.InField text at (at + n + 1) (slice_range text at (at + n))
quoted-end delimiter text at n lt plain first single =
    let goes = goes-then delimiter st.InQuoted st.InQuoted st.InField text at (at + n) (at + n + 1) (slice_range text at (at + n)) [] (goes-quoted delimiter text at n plain) (goes-once delimiter text (at + n) lt first single) in
    subst (λ m. Goes delimiter st.InQuoted st.InField text at (at + n + 1) m) (append-nil (slice_range text at (at + n))) goes

-- quotes that are never closed take the rest of the text
pub quoted-rest : (delimiter : ℕ) (text : List ℕ) (at : ℕ) → at ≤ length text → All (λ c. c ≢ 34) (drop at text)
    → Goes delimiter st.InQuoted st.InField text at (length text) (slice_range text at (length text))
quoted-rest delimiter text at le plain fields field =
    let over = drop-over text (length text) (omega arith) in
    ap (walk delimiter st.InQuoted fields field) (sym (append-nil (drop at text)))
    ∙ quoted-run delimiter (drop at text) fields field [] plain
    ∙ ap (λ f. walk delimiter st.InQuoted fields (field ++ f) []) (sym (slice-end text at))
    ∙ quoted-over delimiter fields (field ++ slice_range text at (length text))
    ∙ ap (walk delimiter st.InField fields (field ++ slice_range text at (length text))) (sym over)

kept-more : (wanted : Bool) (old a b : List ℕ) → kept wanted (kept wanted old a) b ≡ kept wanted old (a ++ b)
kept-more true old a b = append_assoc old a b
kept-more false old a b = refl

-- up to a place in quotes a field was read, and its bytes are kept where they are wanted
abbrev pub InQuotes : ℕ → List ℕ → ℕ → ℕ → Bool → List ℕ → List ℕ → Type 0
InQuotes delimiter text start at wanted old new =
    (more : List ℕ) × Goes delimiter st.InQuoted st.InQuoted text start at more × (new ≡ kept wanted old more)

pub quotes-on : (delimiter : ℕ) (text : List ℕ) (start at to : ℕ) (wanted : Bool) (old mid new more : List ℕ) → InQuotes delimiter text start at wanted old mid
    → Goes delimiter st.InQuoted st.InQuoted text at to more → new ≡ kept wanted mid more → InQuotes delimiter text start to wanted old new
quotes-on delimiter text start at to wanted old mid new more before goes keeps = (
  before.0 ++ more,
  goes-then delimiter st.InQuoted st.InQuoted st.InQuoted text start at to before.0 more before.1 goes,
  keeps ∙ ap (λ m. kept wanted m more) before.2 ∙ kept-more wanted old before.0 more,
)

pub quotes-closed : (delimiter : ℕ) (text : List ℕ) (start at to end : ℕ) (wanted : Bool) (old mid new last more : List ℕ) → start ≤ at → at ≤ to → InQuotes delimiter text start at wanted old mid
    → Goes delimiter st.InQuoted st.InField text at to more → new ≡ kept wanted mid more → ReadsField delimiter st.InField text to end wanted new last
    → ReadsField delimiter st.InQuoted text start end wanted old last
quotes-closed delimiter text start at to end wanted old mid new last more low high before goes keeps reads = record {
  more = before.0 ++ (more ++ reads.more);
  ends = record {
    order = omega (arith, low, high, reads.ends.order);
    within = reads.ends.within;
    ended = reads.ends.ended;
    walked = goes-then delimiter st.InQuoted st.InQuoted st.InField text start at end before.0 (more ++ reads.more) before.1
        (goes-then delimiter st.InQuoted st.InField st.InField text at to end more reads.more goes reads.ends.walked);
  };
  keeps = reads.keeps
      ∙ ap (λ m. kept wanted m reads.more) (keeps ∙ ap (λ m. kept wanted m more) before.2 ∙ kept-more wanted old before.0 more)
      ∙ kept-more wanted old (before.0 ++ more) reads.more
      ∙ ap (kept wanted old) (append_assoc before.0 more reads.more);
}

pub quotes-open : (delimiter : ℕ) (text : List ℕ) (start at : ℕ) (wanted : Bool) (old mid new : List ℕ) → start ≤ at → at ≤ length text → InQuotes delimiter text start at wanted old mid
    → All (λ c. c ≢ 34) (drop at text) → new ≡ kept wanted mid (slice_range text at (length text))
    → ReadsField delimiter st.InQuoted text start (length text) wanted old new
quotes-open delimiter text start at wanted old mid new low high before plain keeps = record {
  more = before.0 ++ slice_range text at (length text);
  ends = record {
    order = omega (arith, low, high);
    within = omega arith;
    ended = λ lt. absurd (omega (arith, lt));
    walked = goes-then delimiter st.InQuoted st.InQuoted st.InField text start at (length text) before.0 (slice_range text at (length text)) before.1 (quoted-rest delimiter text at high plain);
  };
  keeps = keeps ∙ ap (λ m. kept wanted m (slice_range text at (length text))) before.2 ∙ kept-more wanted old before.0 (slice_range text at (length text));
}

-- ---- a field from its start
pub field-in-quotes : (delimiter : ℕ) (text : List ℕ) (at end : ℕ) (wanted : Bool) (old new : List ℕ) → at < length text → get_or text at 0 ≡ 34
    → ReadsField delimiter st.InQuoted text (at + 1) end wanted old new → ReadsField delimiter st.StartField text at end wanted old new
field-in-quotes delimiter text at end wanted old new lt quote reads = record {
  more = reads.more;
  ends = record {
    order = omega (arith, reads.ends.order);
    within = reads.ends.within;
    ended = reads.ends.ended;
    walked = λ fields field.
        ap (walk delimiter st.StartField fields field) (next-byte text at lt ∙ ap (λ c. c ∷ drop (at + 1) text) quote)
        ∙ field-quoted delimiter fields field (drop (at + 1) text)
        ∙ reads.ends.walked fields field;
  };
  keeps = reads.keeps;
}

ends-without : (delimiter : ℕ) (text : List ℕ) (at end : ℕ) (more : List ℕ) → at < length text → get_or text at 0 ≢ 34
    → EndsField delimiter st.InField text at end more → EndsField delimiter st.StartField text at end more
ends-without delimiter text at end more lt other ends = record {
  order = ends.order;
  within = ends.within;
  ended = ends.ended;
  walked = λ fields field.
      ap (walk delimiter st.StartField fields field) (next-byte text at lt)
      ∙ field-bare delimiter (get_or text at 0) fields field (drop (at + 1) text) other
      ∙ ap (walk delimiter st.InField fields field) (sym (next-byte text at lt))
      ∙ ends.walked fields field;
}

-- ---- the fields of a record
field-front : (fields : Record) (last : List ℕ) (i : ℕ) → i < length fields → field_at (fields ++ last ∷ []) i ≡ field_at fields i
unfolding field_at
field-front [] last i lt = absurd (omega (arith, lt))
field-front (f ∷ fields) last zero lt = refl
field-front (f ∷ fields) last (suc i) lt = field-front fields last i (omega (arith, lt))

field-last : (fields : Record) (last : List ℕ) → field_at (fields ++ last ∷ []) (length fields) ≡ Some last
unfolding field_at
field-last [] last = refl
field-last (f ∷ fields) last = field-last fields last

field-past : (fields : Record) (i : ℕ) → length fields ≤ i → field_at fields i ≡ None
unfolding field_at
field-past [] zero lt = refl
field-past [] (suc i) lt = refl
field-past (f ∷ fields) zero lt = absurd (omega (arith, lt))
field-past (f ∷ fields) (suc i) lt = field-past fields i (omega (arith, lt))

no_fields : (fields : Record) → length fields ≡ 0 → fields ≡ []
no_fields [] e = refl
no_fields (f ∷ fields) e = absurd (omega (arith, e))

-- a field is the key where it is wanted, and else the key stays
pub key-in-quotes : (delimiter : ℕ) (text : List ℕ) (at end : ℕ) (wanted : Bool) (buffer key : List ℕ) (old new : Row) → at < length text → get_or text at 0 ≡ 34
    → wanted ≡ true → buffer ≡ [] → ReadsField delimiter st.InQuoted text (at + 1) end true buffer key → key_of new ≡ key
    → ReadsKey delimiter text at end wanted old new
key-in-quotes delimiter text at end wanted buffer key old new lt quote is none reads same =
    let whole = field-in-quotes delimiter text at end true buffer key lt quote reads in
    record {
      field = whole.more;
      ends = whole.ends;
      key = same ∙ whole.keeps ∙ ap (λ b. b ++ whole.more) none ∙ sym (ap (λ b. if b then whole.more else key_of old) is);
    }

pub other-in-quotes : (delimiter : ℕ) (text : List ℕ) (at end : ℕ) (wanted : Bool) (buffer : List ℕ) (old new : Row) → at < length text → get_or text at 0 ≡ 34
    → wanted ≡ false → ReadsField delimiter st.InQuoted text (at + 1) end false old.buffer.items buffer → key_of new ≡ bytes_in old.place buffer
    → ReadsKey delimiter text at end wanted old new
other-in-quotes delimiter text at end wanted buffer old new lt quote is reads same =
    let whole = field-in-quotes delimiter text at end false old.buffer.items buffer lt quote reads in
    record {
      field = whole.more;
      ends = whole.ends;
      key = same ∙ ap (bytes_in old.place) whole.keeps ∙ sym (ap (λ b. if b then whole.more else key_of old) is);
    }

pub key-without : (delimiter : ℕ) (text : List ℕ) (at end : ℕ) (wanted : Bool) (old new : Row) → at < length text → get_or text at 0 ≢ 34
    → EndsField delimiter st.InField text at end (slice_range text at end)
    → key_of new ≡ (if wanted then slice_range text at end else key_of old) → ReadsKey delimiter text at end wanted old new
key-without delimiter text at end wanted old new lt other ends key =
    record { field = slice_range text at end; ends = ends-without delimiter text at end (slice_range text at end) lt other ends; key = key }

-- a field that was read to its end makes the fields whole
pub row-whole : (delimiter : ℕ) (text : List ℕ) (at end column : ℕ) (old new : Row) → ReadsKey delimiter text at end (old.count == column) old new
    → new.count ≡ old.count → ReadsRow delimiter text at end column old new
row-whole delimiter text at end column old new reads same = record {
  field = reads.field;
  ends = reads.ends;
  whole = λ fields is.
      let long : length (fields ++ reads.field ∷ []) ≡ length fields + 1 = length-append fields (reads.field ∷ []) in
      elim (eqb_tells old.count column) [
        | inl here ↦
            let own : key_of new ≡ reads.field = reads.key ∙ ap (λ b. if b then reads.field else key_of old) here.0 in
            let there : length fields ≡ column = sym is.count ∙ here.1 in
            record {
              count = omega (arith, same, is.count, long);
              key = λ below. ap (field_at (fields ++ reads.field ∷ [])) (sym there) ∙ field-last fields reads.field ∙ ap Some (sym own);
              before = λ below. absurd (omega (arith, below, same, here.1));
            }
        | inr other ↦
            let own : key_of new ≡ key_of old = reads.key ∙ ap (λ b. if b then reads.field else key_of old) other.0 in
            record {
              count = omega (arith, same, is.count, long);
              key = λ below.
                  let less : column < old.count = omega (arith, below, same, other.1) in
                  field-front fields reads.field column (omega (arith, less, is.count)) ∙ is.key less ∙ ap Some (sym own);
              before = λ below. own ∙ is.before (omega (arith, below, same));
            }
      ];
}

-- ---- the key of a record
column-taken : (column : ℕ) (fields : Record) (found : Option (List ℕ)) → field_at fields column ≡ found → key_in (column + 1) fields ≡ field_or_lack found
column-taken column fields found is =
    let same : (column + 1) - 1 ≡ column = omega arith in
    ap (λ n. field_or_lack (field_at fields n)) same ∙ ap field_or_lack is

pub row-long : (column : ℕ) (row : Row) (width nth : ℕ) (fields : Record) → row.count + 1 ≢ width → IsWhole column row fields
    → IsFaultAt (key_in (column + 1)) width nth fields (r.BadCsv nth)
row-long column row width nth fields other is rest = keys_from-other (key_in (column + 1)) width nth fields rest (λ e. other (is.count ∙ e))

pub row-lacks : (column : ℕ) (row : Row) (width nth : ℕ) (fields : Record) → row.count + 1 ≡ width → row.count < column → IsWhole column row fields
    → IsFaultAt (key_in (column + 1)) width nth fields (r.NoSuchColumn nth)
row-lacks column row width nth fields same past is rest =
    let none = field-past fields column (omega (arith, is.count, past)) in
    keys_from-lacks (key_in (column + 1)) width nth fields rest l.Column (sym is.count ∙ same) (column-taken column fields None none)

pub row-takes : (column : ℕ) (row : Row) (width nth : ℕ) (old new : List (List ℕ)) (fields : Record) → row.count + 1 ≡ width → column ≤ row.count → new ≡ old ++ key_of row ∷ []
    → IsWhole column row fields → TakesKey (key_in (column + 1)) width nth old new fields
row-takes column row width nth old new fields same here grown is rest =
    rw (grown, keys_from-key (key_in (column + 1)) width nth fields rest (key_of row) (sym is.count ∙ same) (column-taken column fields (Some (key_of row)) (is.key (omega (arith, here)))))
    (sym (after_keys-more old (key_of row) (keys_from (key_in (column + 1)) width (nth + 1) rest)))

-- ---- what a search for a double quote finds
pub none-before : (text xs : List ℕ) (at n : ℕ) → xs ≡ drop at text → n ≤ length xs → ((k : ℕ) → 0 ≤ k → k < n → Passes (is_byte 34) xs k → ⊥) → All (λ c. c ≢ 34) (take n (drop at text))
none-before text xs at n same h none = subst (λ y. All (λ c. c ≢ 34) (take n y)) same (lacks xs n h none)

pub none-left : (text xs : List ℕ) (at : ℕ) → xs ≡ drop at text → ((k : ℕ) → 0 ≤ k → k < length xs → Passes (is_byte 34) xs k → ⊥) → All (λ c. c ≢ 34) (drop at text)
none-left text xs at same none = subst (All (λ b. b ≢ 34)) (take_all xs ∙ same) (lacks xs (length xs) (omega arith) none)

pub quote-there : (text xs : List ℕ) (at n : ℕ) → xs ≡ drop at text → Passes (is_byte 34) xs n → get_or text (at + n) 0 ≡ 34
quote-there text xs at n same passes = sym (get_or-drop at text n 0) ∙ ap (λ y. get_or y n 0) (sym same) ∙ eqb-true (get_or xs n 0) 34 passes

pub inside-text : (text xs : List ℕ) (at n : ℕ) → xs ≡ drop at text → n < length xs → at + n < length text
inside-text text xs at n same lt = omega (arith, ap length same, length-drop at text, lt)

pub ok-both : {T E : Type 0} (r : Result T E) (P Q : T → Type 0) (C : Type 0) → ((x : T) → P x → C → Q x) → IfOk r P → OnOk r C → IfOk r Q
ok-both (Ok x) P Q C f h g = f x h g
ok-both (Err e) P Q C f h g = tt

pub ok-then : {T E : Type 0} (r : Result T E) (P Q : T → Type 0) → ((x : T) → P x → Q x) → IfOk r P → IfOk r Q
ok-then (Ok x) P Q f h = f x h
ok-then (Err e) P Q f h = tt

-- ---- the walk over a text, field by field
-- where a reader stands before a field: at the start of a record, or behind a delimiter
abbrev pub head : ℕ → State
head n = if n == 0 then st.StartRecord else st.StartField

head-none : (n : ℕ) → n ≡ 0 → head n ≡ st.StartRecord
head-none n e = rw (eq-eqb n 0 e) refl

head-some : (n : ℕ) → n ≢ 0 → head n ≡ st.StartField
head-some n other = rw (ne_eqb n 0 other) refl

from-head : (delimiter : ℕ) (text : List ℕ) (at n : ℕ) (fields : Record) → at < length text → n ≡ length fields → (n ≡ 0 → IsLineEnd (get_or text at 0) → ⊥)
    → walk delimiter (head n) fields [] (drop at text) ≡ walk delimiter st.StartField fields [] (drop at text)
from-head delimiter text at n fields lt count free =
    elim (eqb_tells n 0) [
      | inl e ↦
          let none = no_fields fields (sym count ∙ e.1) in
          ap₂ (λ s f. walk delimiter s f [] (drop at text)) (head-none n e.1) none
          ∙ ap (walk delimiter st.StartRecord [] []) (next-byte text at lt)
          ∙ record-bare delimiter (get_or text at 0) (drop (at + 1) text) (λ h. free e.1 (inl h)) (λ h. free e.1 (inr h))
          ∙ ap (walk delimiter st.StartField [] []) (sym (next-byte text at lt))
          ∙ ap (λ f. walk delimiter st.StartField f [] (drop at text)) (sym none)
      | inr o ↦ ap (λ s. walk delimiter s fields [] (drop at text)) (head-some n o.1)
    ]

walked-delimiter : (delimiter : ℕ) (text : List ℕ) (end : ℕ) (fields : Record) (field : List ℕ) → end < length text → get_or text end 0 ≡ delimiter
    → walk delimiter st.InField fields field (drop end text) ≡ walk delimiter st.StartField (fields ++ field ∷ []) [] (drop (end + 1) text)
walked-delimiter delimiter text end fields field lt comma =
    ap (walk delimiter st.InField fields field) (next-byte text end lt ∙ ap (λ c. c ∷ drop (end + 1) text) comma) ∙ in-delimiter delimiter fields field (drop (end + 1) text)

ends-line : (delimiter c : ℕ) → (c ≡ delimiter → ⊥) → (c ≡ delimiter) ⊎ IsLineEnd c → IsLineEnd c
ends-line delimiter c other (inl h) = absurd (other h)
ends-line delimiter c other (inr h) = h

walked-end : (delimiter : ℕ) (s : State) (text : List ℕ) (at end : ℕ) (fields : Record) (field : List ℕ) → EndsField delimiter s text at end field → (end < length text → get_or text end 0 ≡ delimiter → ⊥)
    → walk delimiter st.InField fields field (drop end text) ≡ (fields ++ field ∷ []) ∷ walk delimiter st.StartRecord [] [] (drop (end + 1) text)
walked-end delimiter s text at end fields field ends other =
    elim (dec_lt end (length text)) [
      | yes lt ↦
          ap (walk delimiter st.InField fields field) (next-byte text end lt)
          ∙ in-end delimiter (get_or text end 0) fields field (drop (end + 1) text) (other lt) (ends-line delimiter (get_or text end 0) (other lt) (ends.ended lt))
      | no over ↦
          let here = drop-over text end (omega (arith, over)) in
          let there = drop-over text (end + 1) (omega (arith, over)) in
          ap (walk delimiter st.InField fields field) here ∙ in-over delimiter fields field
          ∙ ap (λ rows. (fields ++ field ∷ []) ∷ rows) (sym (ap (walk delimiter st.StartRecord [] []) there ∙ record-over delimiter))
    ]

-- ---- the keys of the text, from those that were read and those of the walk that is left
abbrev pub Reads : ℕ → List ℕ → ℕ → ℕ → List (List ℕ) → ℕ → Row → ℕ → Type 0
Reads delimiter text column width keys nth row at =
    (fields : Record) × IsRow column row fields
    × (piece_keys delimiter (key_in (column + 1)) width text
    ≡ after_keys keys (keys_from (key_in (column + 1)) width nth (walk delimiter (head row.count) fields [] (drop at text))))

strip-if : (b : Bool) (x y : List ℕ) → Path ℕ (if b then 3 else 0) 0 → (if b then x else y) ≡ y
strip-if true x y e = absurd (omega (arith, e))
strip-if false x y e = refl

strip-none : (text : List ℕ) → bom_length text ≡ 0 → strip_bom text ≡ text
unfolding bom_length strip_bom
strip-none [] e = refl
strip-none (a ∷ []) e = refl
strip-none (a ∷ b ∷ []) e = refl
strip-none (a ∷ b ∷ c ∷ rest) e = strip-if (is_bom a b c) rest (a ∷ b ∷ c ∷ rest) e

pub reads-first : (delimiter : ℕ) (text : List ℕ) (column width : ℕ) (keys : List (List ℕ)) (row : Row) → keys ≡ [] → bom_length text ≡ 0 → IsRow column row [] → row.count ≡ 0
    → Reads delimiter text column width keys 1 row 0
reads-first delimiter text column width keys row none unmarked is count =
    let from : file_records delimiter text ≡ walk delimiter (head row.count) [] [] text =
    ap (records (dialect delimiter)) (strip-none text unmarked) ∙ records-walk delimiter text ∙ ap (λ s. walk delimiter s [] [] text) (sym (head-none row.count count)) in
    ([], is, rw none (ap (keys_from (key_in (column + 1)) width 1) from))

on-walk : (text : List ℕ) (column width : ℕ) (keys : List (List ℕ)) (nth : ℕ) (total : Result (List (List ℕ)) Refusal) (old new : List Record)
    → total ≡ after_keys keys (keys_from (key_in (column + 1)) width nth old) → old ≡ new → total ≡ after_keys keys (keys_from (key_in (column + 1)) width nth new)
on-walk text column width keys nth total old new is same = is ∙ ap (λ rows. after_keys keys (keys_from (key_in (column + 1)) width nth rows)) same

-- the end of a line behind no field is passed over
pub reads-blank : (delimiter : ℕ) (text : List ℕ) (column width : ℕ) (keys : List (List ℕ)) (nth : ℕ) (row : Row) (at : ℕ) → Reads delimiter text column width keys nth row at → at < length text
    → row.count ≡ 0 → IsLineEnd (get_or text at 0) → Reads delimiter text column width keys nth row (at + 1)
reads-blank delimiter text column width keys nth row at reads lt count ends =
    let none = no_fields reads.0 (sym reads.1.count ∙ count) in (
      reads.0,
      reads.1,
      on-walk text column width keys nth _ _ _ reads.2
          (ap₂ (λ s f. walk delimiter s f [] (drop at text)) (head-none row.count count) none
          ∙ ap (walk delimiter st.StartRecord [] []) (next-byte text at lt)
          ∙ record-end delimiter (get_or text at 0) (drop (at + 1) text) ends
          ∙ sym (ap₂ (λ s f. walk delimiter s f [] (drop (at + 1) text)) (head-none row.count count) none)),
    )

-- a field that starts here is no end of a line
abbrev pub Starts : List ℕ → ℕ → Row → Type 0
Starts text at row = (at < length text) × (row.count ≡ 0 → IsLineEnd (get_or text at 0) → ⊥)

field-walked : (delimiter : ℕ) (text : List ℕ) (column at end : ℕ) (old mid : Row) (fields : Record) → Starts text at old → IsRow column old fields → (read : ReadsRow delimiter text at end column old mid)
    → walk delimiter (head old.count) fields [] (drop at text) ≡ walk delimiter st.InField fields read.field (drop end text)
field-walked delimiter text column at end old mid fields starts is read = from-head delimiter text at old.count fields starts.0 is.count starts.1 ∙ read.ends.walked fields []

pub reads-delimiter : (delimiter : ℕ) (text : List ℕ) (column width : ℕ) (keys : List (List ℕ)) (nth : ℕ) (old mid next : Row) (at end : ℕ) → Reads delimiter text column width keys nth old at → Starts text at old
    → ReadsRow delimiter text at end column old mid → end < length text → get_or text end 0 ≡ delimiter → next.count ≡ mid.count + 1
    → ((fields : Record) → IsWhole column mid fields → IsRow column next fields) → Reads delimiter text column width keys nth next (end + 1)
reads-delimiter delimiter text column width keys nth old mid next at end reads starts read lt comma count goes =
    let fields = reads.0 ++ read.field ∷ [] in (
      fields,
      goes fields (read.whole reads.0 reads.1),
      on-walk text column width keys nth _ _ _ reads.2
          (field-walked delimiter text column at end old mid reads.0 starts reads.1 read ∙ walked-delimiter delimiter text end reads.0 read.field lt comma
          ∙ ap (λ s. walk delimiter s fields [] (drop (end + 1) text)) (sym (head-some next.count (λ e. absurd (omega (arith, e, count)))))),
    )

-- a record was added
abbrev pub Takes : ℕ → ℕ → ℕ → List (List ℕ) → List (List ℕ) → Row → Type 0
Takes column width nth old new row = (fields : Record) → IsWhole column row fields → TakesKey (key_in (column + 1)) width nth old new fields

abbrev pub Faults : ℕ → ℕ → ℕ → Row → Refusal → Type 0
Faults column width nth row e = (e ≡ r.Memory) ⊎ ((fields : Record) → IsWhole column row fields → IsFaultAt (key_in (column + 1)) width nth fields e)

record-walked : (delimiter : ℕ) (text : List ℕ) (column width : ℕ) (keys : List (List ℕ)) (nth : ℕ) (old mid : Row) (at end : ℕ) (reads : Reads delimiter text column width keys nth old at) → Starts text at old
    → (read : ReadsRow delimiter text at end column old mid) → (end < length text → get_or text end 0 ≡ delimiter → ⊥)
    → piece_keys delimiter (key_in (column + 1)) width text
    ≡ after_keys keys (keys_from (key_in (column + 1)) width nth ((reads.0 ++ read.field ∷ []) ∷ walk delimiter st.StartRecord [] [] (drop (end + 1) text)))
record-walked delimiter text column width keys nth old mid at end reads starts read other =
    on-walk text column width keys nth _ _ _ reads.2
    (field-walked delimiter text column at end old mid reads.0 starts reads.1 read ∙ walked-end delimiter st.StartField text at end reads.0 read.field read.ends other)

pub reads-end : (delimiter : ℕ) (text : List ℕ) (column width : ℕ) (keys more : List (List ℕ)) (nth : ℕ) (old mid next : Row) (at end : ℕ) → Reads delimiter text column width keys nth old at → Starts text at old
    → ReadsRow delimiter text at end column old mid → (end < length text → get_or text end 0 ≡ delimiter → ⊥) → Takes column width nth keys more mid
    → next.count ≡ 0 → IsRow column next [] → Reads delimiter text column width more (nth + 1) next (end + 1)
reads-end delimiter text column width keys more nth old mid next at end reads starts read other takes count is =
    let fields = reads.0 ++ read.field ∷ [] in (
      [],
      is,
      record-walked delimiter text column width keys nth old mid at end reads starts read other
          ∙ takes fields (read.whole reads.0 reads.1) (walk delimiter st.StartRecord [] [] (drop (end + 1) text))
          ∙ ap (λ s. after_keys more (keys_from (key_in (column + 1)) width (nth + 1) (walk delimiter s [] [] (drop (end + 1) text)))) (sym (head-none next.count count)),
    )

pub reads-fault : (delimiter : ℕ) (text : List ℕ) (column width : ℕ) (keys : List (List ℕ)) (nth : ℕ) (old mid : Row) (at end : ℕ) (e : Refusal) → Reads delimiter text column width keys nth old at → Starts text at old
    → ReadsRow delimiter text at end column old mid → (end < length text → get_or text end 0 ≡ delimiter → ⊥) → Faults column width nth mid e
    → (e ≡ r.Memory) ⊎ (piece_keys delimiter (key_in (column + 1)) width text ≡ Err e)
reads-fault delimiter text column width keys nth old mid at end e reads starts read other (inl h) = inl h
reads-fault delimiter text column width keys nth old mid at end e reads starts read other (inr h) =
    let fields = reads.0 ++ read.field ∷ [] in
    inr
    (record-walked delimiter text column width keys nth old mid at end reads starts read other
    ∙ ap (after_keys keys) (h fields (read.whole reads.0 reads.1) (walk delimiter st.StartRecord [] [] (drop (end + 1) text)))
    ∙ after_keys-err keys e)

-- ---- at the end of the text
-- behind a last delimiter there is one field more, which is empty
row-last : (column : ℕ) (row : Row) (fields : Record) → IsRow column row fields → IsWhole column row (fields ++ [] ∷ [])
row-last column row fields is = record {
  count = omega (arith, is.count, length-append fields ([] ∷ []));
  key = λ below.
      elim (eqb_tells row.count column) [
        | inl here ↦
            let there : length fields ≡ column = sym is.count ∙ here.1 in
            ap (field_at (fields ++ [] ∷ [])) (sym there) ∙ field-last fields [] ∙ ap Some (sym (is.before (omega (arith, here.1))))
        | inr other ↦
            let less : column < row.count = omega (arith, below, other.1) in
            field-front fields [] column (omega (arith, less, is.count)) ∙ is.key less
      ];
  before = λ below. is.before (omega (arith, below));
}

last-walked : (delimiter : ℕ) (text : List ℕ) (column width : ℕ) (keys : List (List ℕ)) (nth : ℕ) (row : Row) (at : ℕ) (reads : Reads delimiter text column width keys nth row at) → length text ≤ at → row.count ≢ 0
    → piece_keys delimiter (key_in (column + 1)) width text ≡ after_keys keys (keys_from (key_in (column + 1)) width nth ((reads.0 ++ [] ∷ []) ∷ []))
last-walked delimiter text column width keys nth row at reads over some =
    on-walk text column width keys nth _ _ _ reads.2
    (ap₂ (λ s y. walk delimiter s reads.0 [] y) (head-some row.count some) (drop-over text at over) ∙ field-over delimiter reads.0 [])

pub reads-last : (delimiter : ℕ) (text : List ℕ) (column width : ℕ) (keys more : List (List ℕ)) (nth : ℕ) (row : Row) (at : ℕ) → Reads delimiter text column width keys nth row at → length text ≤ at
    → row.count ≢ 0 → Takes column width nth keys more row → piece_keys delimiter (key_in (column + 1)) width text ≡ Ok more
reads-last delimiter text column width keys more nth row at reads over some takes =
    last-walked delimiter text column width keys nth row at reads over some ∙ takes (reads.0 ++ [] ∷ []) (row-last column row reads.0 reads.1) []
    ∙ ap (after_keys more) (keys_from-nil (key_in (column + 1)) width (nth + 1)) ∙ after_keys-ok more

pub reads-last-fault : (delimiter : ℕ) (text : List ℕ) (column width : ℕ) (keys : List (List ℕ)) (nth : ℕ) (row : Row) (at : ℕ) (e : Refusal) → Reads delimiter text column width keys nth row at → length text ≤ at
    → row.count ≢ 0 → Faults column width nth row e → (e ≡ r.Memory) ⊎ (piece_keys delimiter (key_in (column + 1)) width text ≡ Err e)
reads-last-fault delimiter text column width keys nth row at e reads over some (inl h) = inl h
reads-last-fault delimiter text column width keys nth row at e reads over some (inr h) =
    inr
    (last-walked delimiter text column width keys nth row at reads over some
    ∙ ap (after_keys keys) (h (reads.0 ++ [] ∷ []) (row-last column row reads.0 reads.1) [])
    ∙ after_keys-err keys e)

pub reads-over : (delimiter : ℕ) (text : List ℕ) (column width : ℕ) (keys : List (List ℕ)) (nth : ℕ) (row : Row) (at : ℕ) → Reads delimiter text column width keys nth row at → length text ≤ at
    → row.count ≡ 0 → piece_keys delimiter (key_in (column + 1)) width text ≡ Ok keys
reads-over delimiter text column width keys nth row at reads over count =
    let none = no_fields reads.0 (sym reads.1.count ∙ count) in
    on-walk text column width keys nth _ _ _ reads.2
    (ap₂ (λ s f. walk delimiter s f [] (drop at text)) (head-none row.count count) none ∙ ap (walk delimiter st.StartRecord [] []) (drop-over text at over) ∙ record-over delimiter)
    ∙ ap (after_keys keys) (keys_from-nil (key_in (column + 1)) width nth) ∙ after_keys-ok keys
