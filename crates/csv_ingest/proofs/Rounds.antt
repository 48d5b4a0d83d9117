-- A file that is read chunk by chunk.
use Rattle.std.proofs.Common.{◌≡◌, ◌<◌, ◌+◌, ◌∙◌, ℕ, List, [], ◌∷◌, ◌++◌, Bool, Option, Some, None, Result, Ok, Err, length, get_or, take, drop, sym, ap, refl, subst, inl, inr, arith, append-nil, append_assoc, length-append}
use Rattle.std.specs.Prelude.{◌⊎◌, suc, zero}
use Rattle.std.proofs.lemmas.List.{take-append-drop, take_more}
use Rattle.std.proofs.lemmas.List.Concat.{flat_map-append}
use Rattle.std.proofs.lemmas.List.Sums.{fold-append}
use Rattle.csv.specs.Reading.{strip_bom}
use Rattle.lane_words.specs.declared.Refusal.{Refusal}
use Rattle.lane_words.specs.declared.Refusal.TheVariants as r
use Rattle.csv_ingest.specs.KeyFile.{Record, Taking, keys_from, keys_of_records, taken_of}
use Rattle.csv_ingest.specs.Pieces.{ArePieces, file_records, later_fault, later_keys, then_keys}
use Rattle.csv_ingest.specs.Private.Pieces.{IsWidthOf, bytes_of, without_key}
use Rattle.csv_ingest.specs.Rounds.{HasRead, IsSplitPoint, chunk_keys, width_after, width_after_all, width_of}
use Rattle.csv_ingest.specs.Stand.{IsCut, stand_after, stand_next}
use Rattle.csv_ingest.specs.declared.stand.Stand.{Stand}
use Rattle.csv_ingest.specs.declared.stand.Stand.TheVariants as k
use Rattle.csv_ingest.proofs.Joined.{after_keys-both, after_keys-fault, count_of}
use Rattle.csv_ingest.proofs.Parts.{drop-step, pieces-bytes}
use Rattle.csv_ingest.proofs.Pieces.{keys_from-later, keys_of-two, no_records}
use Rattle.csv_ingest.proofs.Stands.{bom-before, cut_file, line-no_bom, stand-append}

pub split-records : (delimiter : ℕ) (read rest : List ℕ) → IsSplitPoint delimiter read rest → file_records delimiter (read ++ rest) ≡ file_records delimiter read ++ file_records delimiter rest
split-records delimiter read rest (inl start) = rw (start, no_records delimiter) refl
split-records delimiter read rest (inr (inl end)) = rw (end, no_records delimiter, append-nil read) (sym (append-nil (file_records delimiter read)))
split-records delimiter read rest (inr (inr next)) = rw next.1 (cut_file delimiter read next.0 next.2)

pub width-append : (xs ys : List Record) → width_of (xs ++ ys) ≡ width_after (width_of xs) ys
width-append [] ys = refl
width-append (x ∷ xs) ys = refl

-- the keys of further records, before or behind the first record of a file
abbrev more_keys : Taking → Bool → Option ℕ → List Record → Result (List (List ℕ)) Refusal
more_keys wanted header None rows = keys_of_records wanted header rows
more_keys wanted header (Some width) rows = keys_from wanted width 1 rows

chunk_keys-rows : (delimiter : ℕ) (wanted : Taking) (header : Bool) (width : Option ℕ) (chunk : List ℕ) → chunk_keys delimiter wanted header width chunk ≡ more_keys wanted header width (file_records delimiter chunk)
chunk_keys-rows delimiter wanted header None chunk = refl
chunk_keys-rows delimiter wanted header (Some width) chunk = refl

later_fault-none : (e : Refusal) → later_fault 0 e ≡ e
later_fault-none (r.NoSuchColumn nth) = let same : nth + 0 ≡ nth = omega arith in ap r.NoSuchColumn same
later_fault-none (r.BadCsv nth) = let same : nth + 0 ≡ nth = omega arith in ap r.BadCsv same
later_fault-none (r.NoSuchTopic nth) = let same : nth + 0 ≡ nth = omega arith in ap r.NoSuchTopic same
later_fault-none fault = refl

later_keys-none : (found : Result (List (List ℕ)) Refusal) → later_keys 0 found ≡ found
later_keys-none (Ok keys) = refl
later_keys-none (Err e) = ap Err (later_fault-none e)

keys-append : (wanted : Taking) (header : Bool) (xs ys : List Record)
    → keys_of_records wanted header (xs ++ ys) ≡ then_keys (keys_of_records wanted header xs) (later_keys (length xs) (more_keys wanted header (width_of xs) ys))
keys-append wanted header [] ys = sym (later_keys-none (keys_of_records wanted header ys))
keys-append wanted header (x ∷ xs) ys =
    keys_of-two wanted header x xs ys
    ∙ ap (then_keys (keys_of_records wanted header (x ∷ xs))) (keys_from-later wanted (length x) 1 (length (x ∷ xs)) ys)

-- the keys of a file up to a split point, and then those of a chunk, whose faults count on
pub split-keys : (delimiter : ℕ) (wanted : Taking) (header : Bool) (read chunk : List ℕ) → IsSplitPoint delimiter read chunk
    → taken_of delimiter wanted header (read ++ chunk)
    ≡ then_keys (taken_of delimiter wanted header read) (later_keys (length (file_records delimiter read)) (chunk_keys delimiter wanted header (width_of (file_records delimiter read)) chunk))
split-keys delimiter wanted header read chunk s =
    ap (keys_of_records wanted header) (split-records delimiter read chunk s)
    ∙ keys-append wanted header (file_records delimiter read) (file_records delimiter chunk)
    ∙ ap (λ found. then_keys (taken_of delimiter wanted header read) (later_keys (length (file_records delimiter read)) found))
    (sym (chunk_keys-rows delimiter wanted header (width_of (file_records delimiter read)) chunk))

-- what was read, and a chunk behind it

pub nothing_read : (delimiter : ℕ) (wanted : Taking) (header : Bool) → HasRead delimiter wanted header [] None 0 []
nothing_read delimiter wanted header = record {
  first = sym (ap width_of (no_records delimiter));
  count = sym (ap length (no_records delimiter));
  taken = ap (keys_of_records wanted header) (no_records delimiter);
}

pub read_chunk : (delimiter : ℕ) (wanted : Taking) (header : Bool) (read chunk : List ℕ) (width : Option ℕ) (n : ℕ) (keys more : List (List ℕ)) → HasRead delimiter wanted header read width n keys
    → IsSplitPoint delimiter read chunk → chunk_keys delimiter wanted header width chunk ≡ Ok more
    → HasRead delimiter wanted header (read ++ chunk) (width_after width (file_records delimiter chunk)) (n + length (file_records delimiter chunk)) (keys ++ more)
read_chunk delimiter wanted header read chunk width n keys more so s e =
    let rows = split-records delimiter read chunk s in
    let here : chunk_keys delimiter wanted header (width_of (file_records delimiter read)) chunk ≡ Ok more = subst (λ w. chunk_keys delimiter wanted header w chunk ≡ Ok more) so.first e in
    record {
      first = ap (λ w. width_after w (file_records delimiter chunk)) so.first ∙ sym (width-append (file_records delimiter read) (file_records delimiter chunk)) ∙ ap width_of (sym rows);
      count = ap (λ m. m + length (file_records delimiter chunk)) so.count ∙ sym (length-append (file_records delimiter read) (file_records delimiter chunk)) ∙ ap length (sym rows);
      taken = split-keys delimiter wanted header read chunk s ∙ rw (so.taken, here) (after_keys-both keys more);
    }

pub chunk_fault : (delimiter : ℕ) (wanted : Taking) (header : Bool) (read chunk : List ℕ) (width : Option ℕ) (n : ℕ) (keys : List (List ℕ)) (e : Refusal) → HasRead delimiter wanted header read width n keys
    → IsSplitPoint delimiter read chunk → chunk_keys delimiter wanted header width chunk ≡ Err e → taken_of delimiter wanted header (read ++ chunk) ≡ Err (later_fault n e)
chunk_fault delimiter wanted header read chunk width n keys e so s h =
    let here : chunk_keys delimiter wanted header (width_of (file_records delimiter read)) chunk ≡ Err e = subst (λ w. chunk_keys delimiter wanted header w chunk ≡ Err e) so.first h in
    split-keys delimiter wanted header read chunk s ∙ rw (so.taken, here, ← so.count) (after_keys-fault keys (later_fault n e))

-- a fault stays, whatever follows
pub fault_stays : (delimiter : ℕ) (wanted : Taking) (header : Bool) (read rest : List ℕ) (e : Refusal) → taken_of delimiter wanted header read ≡ Err e → IsSplitPoint delimiter read rest
    → taken_of delimiter wanted header (read ++ rest) ≡ Err e
fault_stays delimiter wanted header read rest e h s = split-keys delimiter wanted header read rest s ∙ rw h refl

pub fault_of_chunk : (delimiter : ℕ) (wanted : Taking) (header : Bool) (read chunk rest : List ℕ) (width : Option ℕ) (n : ℕ) (keys : List (List ℕ)) (e : Refusal) → HasRead delimiter wanted header read width n keys
    → IsSplitPoint delimiter read chunk → chunk_keys delimiter wanted header width chunk ≡ Err e → IsSplitPoint delimiter (read ++ chunk) rest
    → taken_of delimiter wanted header ((read ++ chunk) ++ rest) ≡ Err (later_fault n e)
fault_of_chunk delimiter wanted header read chunk rest width n keys e so s h t =
    fault_stays delimiter wanted header (read ++ chunk) rest (later_fault n e) (chunk_fault delimiter wanted header read chunk width n keys e so s h) t

-- before the first record, at it and behind it

pub none_of-width : (rows : List Record) → None ≡ width_of rows → rows ≡ []
none_of-width [] e = refl
none_of-width (x ∷ rows) e = cc e

pub first_of-width : (width : ℕ) (rows : List Record) → Some width ≡ width_of rows → IsWidthOf width rows
first_of-width width [] e = cc e
first_of-width width (x ∷ rows) e = (x, rows, refl, cc e)

pub none_read : (delimiter : ℕ) (wanted : Taking) (header : Bool) (read : List ℕ) (n : ℕ) (keys : List (List ℕ)) → HasRead delimiter wanted header read None n keys → (n ≡ 0) × (keys ≡ [])
none_read delimiter wanted header read n keys so =
    let none = none_of-width (file_records delimiter read) so.first in
    let taken : taken_of delimiter wanted header read ≡ Ok [] = ap (keys_of_records wanted header) none in
    (so.count ∙ ap length none, cc (sym so.taken ∙ taken))

-- a header is the one record without a key
pub records_read : (delimiter : ℕ) (wanted : Taking) (header : Bool) (read : List ℕ) (width n : ℕ) (keys : List (List ℕ)) → HasRead delimiter wanted header read (Some width) n keys → n ≡ without_key header + length keys
records_read delimiter wanted header read width n keys so =
    so.count ∙ count_of wanted header width (file_records delimiter read) keys (first_of-width width (file_records delimiter read) so.first) so.taken

-- record numbers fit where lengths do

-- split points

pub split-front : (delimiter : ℕ) (read chunk rest : List ℕ) → IsSplitPoint delimiter read (chunk ++ rest) → IsSplitPoint delimiter read chunk
split-front delimiter read [] rest s = inr (inl refl)
split-front delimiter read (c ∷ chunk) rest (inl start) = inl start
split-front delimiter read (c ∷ chunk) rest (inr (inl end)) = cc end
split-front delimiter read (c ∷ chunk) rest (inr (inr next)) =
    let feed : c ≡ 10 = cc next.1 in
    inr (inr (chunk, ap (λ d. d ∷ chunk) feed, next.2))

line-start : (delimiter : ℕ) (s : Stand) (chunk : List ℕ) → stand_next delimiter s 10 ≡ k.Record → stand_after delimiter s (10 ∷ chunk) ≡ stand_after delimiter k.Record (10 ∷ chunk)
unfolding stand_after
line-start delimiter s chunk ends = ap (λ t. stand_after delimiter t chunk) ends

-- behind a split point a reader stands as if a file began there
stand-behind_split : (delimiter : ℕ) (read chunk : List ℕ) → IsCut delimiter (strip_bom read)
    → stand_after delimiter k.Record (strip_bom (read ++ 10 ∷ chunk)) ≡ stand_after delimiter k.Record (strip_bom (10 ∷ chunk))
stand-behind_split delimiter read chunk cut =
    ap (stand_after delimiter k.Record) (bom-before read chunk) ∙ stand-append delimiter (strip_bom read) k.Record (10 ∷ chunk)
    ∙ line-start delimiter (stand_after delimiter k.Record (strip_bom read)) chunk cut ∙ ap (stand_after delimiter k.Record) (sym (line-no_bom chunk))

pub split-next : (delimiter : ℕ) (read chunk rest : List ℕ) → IsSplitPoint delimiter read (chunk ++ rest) → IsSplitPoint delimiter chunk rest → IsSplitPoint delimiter (read ++ chunk) rest
split-next delimiter read [] rest s t = subst (λ xs. IsSplitPoint delimiter xs rest) (sym (append-nil read)) s
split-next delimiter read (c ∷ chunk) rest (inl start) t = rw start t
split-next delimiter read (c ∷ chunk) rest (inr (inl end)) t = cc end
split-next delimiter read (c ∷ chunk) rest (inr (inr next)) (inl start) = cc start
split-next delimiter read (c ∷ chunk) rest (inr (inr next)) (inr (inl end)) = inr (inl end)
split-next delimiter read (c ∷ chunk) rest (inr (inr next)) (inr (inr more)) =
    let feed : c ≡ 10 = cc next.1 in
    let here : IsCut delimiter (strip_bom (10 ∷ chunk)) = subst (λ d. IsCut delimiter (strip_bom (d ∷ chunk))) feed more.2 in
    inr (inr (more.0, more.1, rw feed (ap (λ s. stand_next delimiter s 10) (stand-behind_split delimiter read chunk next.2) ∙ here)))

-- the pieces of a text

-- each of several pieces begins at a split point; so does what follows the last, if nothing does
pub split-pieces : (delimiter : ℕ) (pieces : List (List ℕ)) (read text more : List ℕ) (i : ℕ) → ArePieces delimiter text pieces → (i < length pieces) ⊎ (more ≡ []) → IsSplitPoint delimiter read (text ++ more)
    → IsSplitPoint delimiter (read ++ bytes_of (take i pieces)) (bytes_of (drop i pieces) ++ more)
unfolding ArePieces
split-pieces delimiter pieces read text more zero h at s =
    subst (λ xs. IsSplitPoint delimiter xs (bytes_of pieces ++ more)) (sym (append-nil read)) (subst (λ xs. IsSplitPoint delimiter read (xs ++ more)) (sym (pieces-bytes delimiter pieces text h)) s)
split-pieces delimiter [] read text more (suc i) h (inl within) s = absurd (omega (arith, within))
split-pieces delimiter [] read text more (suc i) h (inr none) s = inr (inl none)
split-pieces delimiter (piece ∷ []) read text more (suc i) h (inl within) s = absurd (omega (arith, within))
split-pieces delimiter (piece ∷ []) read text more (suc zero) h (inr none) s = inr (inl none)
split-pieces delimiter (piece ∷ []) read text more (suc (suc i)) h (inr none) s = inr (inl none)
split-pieces delimiter (piece ∷ next ∷ pieces) read text more (suc i) h at s =
    let rest = (10 ∷ h.0) ++ more in
    let whole : text ++ more ≡ piece ++ rest = ap (λ xs. xs ++ more) h.1 ∙ append_assoc piece (10 ∷ h.0) more in
    let here = split-next delimiter read piece rest (subst (IsSplitPoint delimiter read) whole s) (inr (inr (h.0 ++ more, refl, h.2))) in
    subst (λ xs. IsSplitPoint delimiter xs (bytes_of (drop i (next ∷ pieces)) ++ more)) (append_assoc read piece (bytes_of (take i (next ∷ pieces))))
    (split-pieces delimiter (next ∷ pieces) (read ++ piece) (10 ∷ h.0) more i h.3 (less at) here)
  where
    less : (suc i < length (piece ∷ next ∷ pieces)) ⊎ (more ≡ []) → (i < length (next ∷ pieces)) ⊎ (more ≡ [])
    less (inl within) = inl (omega (arith, within))
    less (inr none) = inr none

bytes-next : (pieces : List (List ℕ)) (i : ℕ) → i < length pieces → bytes_of (take (i + 1) pieces) ≡ bytes_of (take i pieces) ++ get_or pieces i []
bytes-next pieces i within =
    ap bytes_of (take_more pieces i [] within) ∙ flat_map-append (λ (p : List ℕ). p) (take i pieces) (get_or pieces i [] ∷ [])
    ∙ ap (λ xs. bytes_of (take i pieces) ++ xs) (append-nil (get_or pieces i []))

bytes-from : (pieces : List (List ℕ)) (i : ℕ) → i < length pieces → bytes_of (drop i pieces) ≡ get_or pieces i [] ++ bytes_of (drop (i + 1) pieces)
bytes-from pieces i within = ap bytes_of (drop-step pieces i [] within)

split-nil : (delimiter : ℕ) (read text : List ℕ) → IsSplitPoint delimiter read text → IsSplitPoint delimiter read (text ++ [])
split-nil delimiter read text s = subst (IsSplitPoint delimiter read) (sym (append-nil text)) s

-- before each of several pieces there is a split point
pub split-piece : (delimiter : ℕ) (pieces : List (List ℕ)) (read text : List ℕ) (i : ℕ) → ArePieces delimiter text pieces → i < length pieces → IsSplitPoint delimiter read text
    → IsSplitPoint delimiter (read ++ bytes_of (take i pieces)) (get_or pieces i [])
split-piece delimiter pieces read text i h within s =
    let rest = bytes_of (drop (i + 1) pieces) in
    let here = split-pieces delimiter pieces read text [] i h (inl within) (split-nil delimiter read text s) in
    let whole : bytes_of (drop i pieces) ++ [] ≡ get_or pieces i [] ++ rest = append-nil (bytes_of (drop i pieces)) ∙ bytes-from pieces i within in
    split-front delimiter (read ++ bytes_of (take i pieces)) (get_or pieces i []) rest (subst (IsSplitPoint delimiter (read ++ bytes_of (take i pieces))) whole here)

-- a round: the pieces before piece i were read, and then it is

pub width-next : (delimiter : ℕ) (width : Option ℕ) (pieces : List (List ℕ)) (i : ℕ) → i < length pieces
    → width_after_all delimiter width (take (i + 1) pieces) ≡ width_after (width_after_all delimiter width (take i pieces)) (file_records delimiter (get_or pieces i []))
width-next delimiter width pieces i within =
    ap (width_after_all delimiter width) (take_more pieces i [] within)
    ∙ fold-append (λ (w : Option ℕ) (chunk : List ℕ). width_after w (file_records delimiter chunk)) width (take i pieces) (get_or pieces i [] ∷ [])

behind-next : (pieces : List (List ℕ)) (read : List ℕ) (i : ℕ) → i < length pieces → (read ++ bytes_of (take i pieces)) ++ get_or pieces i [] ≡ read ++ bytes_of (take (i + 1) pieces)
behind-next pieces read i within = append_assoc read (bytes_of (take i pieces)) (get_or pieces i []) ∙ ap (λ xs. read ++ xs) (sym (bytes-next pieces i within))

pub read_piece : (delimiter : ℕ) (wanted : Taking) (header : Bool) (pieces : List (List ℕ)) (read text : List ℕ) (i : ℕ) (width : Option ℕ) (n : ℕ) (keys more : List (List ℕ)) → ArePieces delimiter text pieces
    → i < length pieces → IsSplitPoint delimiter read text → HasRead delimiter wanted header (read ++ bytes_of (take i pieces)) (width_after_all delimiter width (take i pieces)) n keys
    → chunk_keys delimiter wanted header (width_after_all delimiter width (take i pieces)) (get_or pieces i []) ≡ Ok more
    → HasRead delimiter wanted header (read ++ bytes_of (take (i + 1) pieces)) (width_after_all delimiter width (take (i + 1) pieces)) (n + length (file_records delimiter (get_or pieces i []))) (keys ++ more)
read_piece delimiter wanted header pieces read text i width n keys more h within s so e =
    let next = read_chunk delimiter wanted header (read ++ bytes_of (take i pieces)) (get_or pieces i []) (width_after_all delimiter width (take i pieces)) n keys more so (split-piece delimiter pieces read text i h within s) e in
    rw (behind-next pieces read i within, ← width-next delimiter width pieces i within) at next

-- a fault of piece i, where the file goes on behind its round, or this is the last round
pub piece_fault : (delimiter : ℕ) (wanted : Taking) (header : Bool) (pieces : List (List ℕ)) (read text more : List ℕ) (i : ℕ) (width : Option ℕ) (n : ℕ) (keys : List (List ℕ)) (e : Refusal) → ArePieces delimiter text pieces
    → i < length pieces → IsSplitPoint delimiter read (text ++ more) → (i + 1 < length pieces) ⊎ (more ≡ []) → HasRead delimiter wanted header (read ++ bytes_of (take i pieces)) width n keys
    → chunk_keys delimiter wanted header width (get_or pieces i []) ≡ Err e → taken_of delimiter wanted header (read ++ (text ++ more)) ≡ Err (later_fault n e)
piece_fault delimiter wanted header pieces read text more i width n keys e h within s end so f =
    let before = read ++ bytes_of (take i pieces) in
    let chunk = get_or pieces i [] in
    let rest = bytes_of (drop (i + 1) pieces) ++ more in
    let here = split-pieces delimiter pieces read text more i h (inl within) s in
    let whole : bytes_of (drop i pieces) ++ more ≡ chunk ++ rest = ap (λ xs. xs ++ more) (bytes-from pieces i within) ∙ append_assoc chunk (bytes_of (drop (i + 1) pieces)) more in
    let first = split-front delimiter before chunk rest (subst (IsSplitPoint delimiter before) whole here) in
    let behind = behind-next pieces read i within in
    let next : IsSplitPoint delimiter (before ++ chunk) rest = subst (λ xs. IsSplitPoint delimiter xs rest) (sym behind) (split-pieces delimiter pieces read text more (i + 1) h end s) in
    let front : bytes_of (take i pieces) ++ bytes_of (drop i pieces) ≡ text = sym (flat_map-append (λ (p : List ℕ). p) (take i pieces) (drop i pieces)) ∙ ap bytes_of (take-append-drop i pieces) ∙ pieces-bytes delimiter pieces text h in
    let file : (before ++ chunk) ++ rest ≡ read ++ (text ++ more) =
    append_assoc before chunk rest ∙ ap (λ xs. before ++ xs) (sym whole) ∙ append_assoc read (bytes_of (take i pieces)) (bytes_of (drop i pieces) ++ more)
    ∙ ap (λ xs. read ++ xs) (sym (append_assoc (bytes_of (take i pieces)) (bytes_of (drop i pieces)) more) ∙ ap (λ xs. xs ++ more) front) in
    ap (taken_of delimiter wanted header) (sym file) ∙ fault_of_chunk delimiter wanted header before chunk rest width n keys e so first f next
