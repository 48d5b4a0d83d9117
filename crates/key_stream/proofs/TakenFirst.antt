-- The first pieces of a text are taken.
use Rattle.std.proofs.Common.{◌≡◌, ◌∙◌, ◌<◌, ◌≤◌, ℕ, zero, suc, List, [], ◌++◌, Bool, true, false, Err, Bor, length, take, drop, sym, ap, refl, subst, arith, inl, inr, length-append, take-append-drop, append-nil}
use Rattle.std.specs.Prelude.{◌⊎◌, ◌-◌, not}
use mir.Val.{bool_byte}
use Rattle.std.specs.List.{take-map}
use Rattle.std.proofs.lemmas.List.{drop_at, length-map, take_at}
use Rattle.std.proofs.lemmas.List.Concat.{flat_map-append}
use Rattle.lane_words.specs.declared.Refusal.{Refusal}
use Rattle.csv_ingest.specs.KeyFile.{Taking, taken_of}
use Rattle.csv_ingest.specs.Pieces.{ArePieces}
use Rattle.csv_ingest.specs.Private.Pieces.{bytes_of, lent}
use Rattle.csv_ingest.specs.Rounds.{IsSplitPoint}
use Rattle.csv_ingest.proofs.Parts.{pieces-bytes}
use Rattle.csv_ingest.proofs.Rounds.{split-front, split-pieces}
use Rattle.key_stream.specs.Counting.{HasFaultIn, IsCounted, TakesFirst}
use Rattle.key_stream.specs.declared.counting.Counting.{Counting}

-- the first `count` of these pieces were taken: whatever was read before them, up to a split point
abbrev pub TakesPieces : ℕ → Taking → Bool → List (List ℕ) → ℕ → Counting → Counting → Type 0
TakesPieces delimiter wanted header pieces count old new =
    (read text : List ℕ) → ArePieces delimiter text pieces → IsSplitPoint delimiter read text
    → IsCounted delimiter wanted header read old
    → IsCounted delimiter wanted header (read ++ bytes_of (take count pieces)) new

-- one of the first `count` of these pieces has a fault: whatever was read before them, up to a
-- split point, it is the fault of the file, which goes on or ends with the last piece
abbrev pub HasFault : ℕ → Taking → Bool → List (List ℕ) → ℕ → Counting → Refusal → Type 0
HasFault delimiter wanted header pieces count old fault =
    (read text more : List ℕ) → ArePieces delimiter text pieces
    → IsSplitPoint delimiter read (text ++ more) → (count < length pieces) ⊎ (more ≡ [])
    → IsCounted delimiter wanted header read old
    → taken_of delimiter wanted header (read ++ (text ++ more)) ≡ Err fault

halves : (delimiter : ℕ) (pieces : List (List ℕ)) (text : List ℕ) (count : ℕ) → ArePieces delimiter text pieces → bytes_of (take count pieces) ++ bytes_of (drop count pieces) ≡ text
halves delimiter pieces text count parts =
    sym (flat_map-append (λ (p : List ℕ). p) (take count pieces) (drop count pieces)) ∙ ap bytes_of (take-append-drop count pieces) ∙ pieces-bytes delimiter pieces text parts

pub front-within : (delimiter : ℕ) (pieces : List (List ℕ)) (text : List ℕ) (count : ℕ) → ArePieces delimiter text pieces → length (bytes_of (take count pieces)) ≤ length text
front-within delimiter pieces text count parts =
    let e = ap length (halves delimiter pieces text count parts) in
    let f = length-append (bytes_of (take count pieces)) (bytes_of (drop count pieces)) in
    omega (arith, e, f)

front-is : (delimiter : ℕ) (pieces : List (List ℕ)) (text : List ℕ) (count n : ℕ) → ArePieces delimiter text pieces → n ≡ length (bytes_of (take count pieces)) → take n text ≡ bytes_of (take count pieces)
front-is delimiter pieces text count n parts is =
    ap (take n) (sym (halves delimiter pieces text count parts)) ∙ take_at (bytes_of (take count pieces)) (bytes_of (drop count pieces)) n (sym is)

back-is : (delimiter : ℕ) (pieces : List (List ℕ)) (text : List ℕ) (count n : ℕ) → ArePieces delimiter text pieces → n ≡ length (bytes_of (take count pieces)) → drop n text ≡ bytes_of (drop count pieces)
back-is delimiter pieces text count n parts is =
    ap (drop n) (sym (halves delimiter pieces text count parts)) ∙ drop_at (bytes_of (take count pieces)) (bytes_of (drop count pieces)) n (sym is)

goes-on : (at_end : Bool) (pieces : List (List ℕ)) (more : List ℕ) (count : ℕ) → (at_end ≡ false → count < length pieces) → (at_end ≡ true → more ≡ []) → (count < length pieces) ⊎ (more ≡ [])
goes-on true pieces more count some end = inr (end refl)
goes-on false pieces more count some end = inl (some refl)

pub takes-first : (delimiter : ℕ) (wanted : Taking) (header at_end : Bool) (text : List ℕ) (pieces : List (List ℕ)) (count n : ℕ) (old new : Counting) → ArePieces delimiter text pieces
    → n ≡ length (bytes_of (take count pieces)) → (at_end ≡ false → count < length pieces) → TakesPieces delimiter wanted header pieces count old new
    → TakesFirst delimiter wanted header at_end text n old new
takes-first delimiter wanted header at_end text pieces count n old new parts is some t = λ read more at end so.
    let front = front-is delimiter pieces text count n parts is in
    let back = back-is delimiter pieces text count n parts is in
    let counted : IsCounted delimiter wanted header (read ++ take n text) new = rw front (t read text parts (split-front delimiter read text more at) so) in
    let split : IsSplitPoint delimiter (read ++ take n text) (drop n text ++ more) =
    rw front (rw back (split-pieces delimiter pieces read text more count parts (goes-on at_end pieces more count some end) at)) in
    (counted, split)

-- nothing is taken, and nothing changes
pub takes-none : (delimiter : ℕ) (wanted : Taking) (header at_end : Bool) (text : List ℕ) (counting : Counting) → TakesFirst delimiter wanted header at_end text 0 counting counting
takes-none delimiter wanted header at_end text counting = λ read more at end so.
    (subst (λ xs. IsCounted delimiter wanted header xs counting) (sym (append-nil read)) so, subst (λ xs. IsSplitPoint delimiter xs (text ++ more)) (sym (append-nil read)) at)

pub fault-in : (delimiter : ℕ) (wanted : Taking) (header at_end : Bool) (text : List ℕ) (pieces : List (List ℕ)) (count : ℕ) (old : Counting) (e : Refusal) → ArePieces delimiter text pieces
    → (at_end ≡ false → count < length pieces) → HasFault delimiter wanted header pieces count old e → HasFaultIn delimiter wanted header at_end text old e
fault-in delimiter wanted header at_end text pieces count old e parts some f = λ read more at end so.
    f read text more parts at (goes-on at_end pieces more count some end) so

pub lent-front : (pieces slice : List (Bor (List ℕ))) (count : ℕ) → slice ≡ pieces → bytes_of (lent (take count slice)) ≡ bytes_of (take count (lent pieces))
lent-front pieces slice count same =
    ap (λ ps. bytes_of (lent (take count ps))) same ∙ ap bytes_of (sym (take-map (λ (p : Bor (List ℕ)). p.now) count pieces))

-- there is a piece more than is taken, where the text is not at its end
pub one-left : (at_end : Bool) (pieces : List (Bor (List ℕ))) (many behind count : ℕ) → many ≡ length pieces → behind ≡ bool_byte (not at_end)
    → count ≡ many - behind → (count ≡ 0 → ⊥) → at_end ≡ false → count < length (lent pieces)
one-left at_end pieces many behind count len b is some goes =
    let one : behind ≡ 1 = b ∙ ap (λ e. bool_byte (not e)) goes in
    let all : length (lent pieces) ≡ length pieces = length-map pieces (λ (p : Bor (List ℕ)). p.now) in
    let not_none : 1 ≤ count = one-or-more count some in
    omega (arith, is, one, len, all, not_none)
  where
    one-or-more : (n : ℕ) → (n ≡ 0 → ⊥) → 1 ≤ n
    one-or-more zero none = absurd (none refl)
    one-or-more (suc n) none = omega arith
