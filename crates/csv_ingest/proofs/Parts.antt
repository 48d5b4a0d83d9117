-- A file in pieces, and its keys by those of the pieces.
use Rattle.std.proofs.Common.{◌≡◌, ◌<◌, ◌+◌, ◌∙◌, ℕ, List, [], ◌∷◌, ◌++◌, Bor, length, get_or, get_or-drop, take, take-add, drop, sym, ap, refl, subst, arith, append-nil, append_assoc, length-drop}
use Rattle.std.proofs.lemmas.List.{map-append, take-append-drop}
use Rattle.std.specs.Prelude.{suc, zero}
use Rattle.csv.specs.Reading.{strip_bom}
use Rattle.csv_ingest.specs.Pieces.{ArePieces}
use Rattle.csv_ingest.specs.Private.Pieces.{bytes_of, lent}
use Rattle.csv_ingest.specs.Stand.{IsCut}

pub pieces-bytes : (delimiter : ℕ) (pieces : List (List ℕ)) (file : List ℕ) → ArePieces delimiter file pieces → bytes_of pieces ≡ file
unfolding ArePieces
pieces-bytes delimiter [] file h = sym h
pieces-bytes delimiter (piece ∷ []) file h = append-nil piece ∙ sym h
pieces-bytes delimiter (piece ∷ next ∷ pieces) file h = ap (λ rest. piece ++ rest) (pieces-bytes delimiter (next ∷ pieces) (10 ∷ h.0) h.3) ∙ sym h.1

pub one-piece : (delimiter : ℕ) (block : List ℕ) → ArePieces delimiter block (block ∷ [])
unfolding ArePieces
one-piece delimiter block = refl

pub pieces-split : (delimiter : ℕ) (pieces : List (List ℕ)) (front rest file : List ℕ) → ArePieces delimiter file (pieces ++ (front ++ 10 ∷ rest) ∷ []) → IsCut delimiter (strip_bom front)
    → ArePieces delimiter file (pieces ++ front ∷ (10 ∷ rest) ∷ [])
unfolding ArePieces
pieces-split delimiter [] front rest file h q = (rest, h, q, refl)
pieces-split delimiter (piece ∷ []) front rest file h q = (h.0, h.1, h.2, pieces-split delimiter [] front rest (10 ∷ h.0) h.3 q)
pieces-split delimiter (piece ∷ next ∷ pieces) front rest file h q = (h.0, h.1, h.2, pieces-split delimiter (next ∷ pieces) front rest (10 ∷ h.0) h.3 q)

pub drop-step : {X : Type 0} (xs : List X) (n : ℕ) (d : X) → n < length xs → drop n xs ≡ get_or xs n d ∷ drop (n + 1) xs
drop-step [] n d h = absurd (omega arith)
drop-step (x ∷ xs) zero d h = refl
drop-step (x ∷ xs) (suc n) d h = let up : suc n + 1 ≡ suc (n + 1) = omega arith in rw up (drop-step xs n d (omega arith))

pub last-cut : (delimiter : ℕ) (pieces : List (List ℕ)) (last file : List ℕ) (cut : ℕ) → ArePieces delimiter file (pieces ++ last ∷ []) → cut < length last → get_or last cut 0 ≡ 10
    → IsCut delimiter (strip_bom (take cut last)) → ArePieces delimiter file ((pieces ++ take cut last ∷ []) ++ drop cut last ∷ [])
last-cut delimiter pieces last file cut h within feed q =
    let rest = drop (cut + 1) last in
    let tail : drop cut last ≡ 10 ∷ rest = drop-step last cut 0 within ∙ ap (λ c. c ∷ rest) feed in
    let whole : last ≡ take cut last ++ 10 ∷ rest = sym (take-append-drop cut last) ∙ ap (λ xs. take cut last ++ xs) tail in
    let split : (pieces ++ take cut last ∷ []) ++ drop cut last ∷ [] ≡ pieces ++ take cut last ∷ (10 ∷ rest) ∷ [] =
    append_assoc pieces (take cut last ∷ []) (drop cut last ∷ []) ∙ ap (λ xs. pieces ++ take cut last ∷ xs ∷ []) tail in
    rw split (pieces-split delimiter pieces (take cut last) rest file (subst (λ xs. ArePieces delimiter file (pieces ++ xs ∷ [])) whole h) q)

-- the rest of a file is cut behind so many bytes and some more
pub next-cut : (delimiter : ℕ) (pieces : List (List ℕ)) (rest file : List ℕ) (aim more : ℕ) → ArePieces delimiter file (pieces ++ rest ∷ []) → more < length (drop aim rest) → get_or (drop aim rest) more 0 ≡ 10
    → IsCut delimiter (strip_bom (take aim rest ++ take more (drop aim rest)))
    → ArePieces delimiter file ((pieces ++ take (aim + more) rest ∷ []) ++ drop (aim + more) rest ∷ [])
next-cut delimiter pieces rest file aim more h within feed q =
    let front : take (aim + more) rest ≡ take aim rest ++ take more (drop aim rest) = take-add aim more rest in
    let here : get_or rest (aim + more) 0 ≡ 10 = sym (get_or-drop aim rest more 0) ∙ feed in
    let inside : aim + more < length rest = omega (arith, within, length-drop aim rest) in
    last-cut delimiter pieces rest file (aim + more) h inside here (rw front q)

pub lent-more : (pieces : List (Bor (List ℕ))) (piece : Bor (List ℕ)) → lent (pieces ++ piece ∷ []) ≡ lent pieces ++ piece.now ∷ []
lent-more pieces piece = map-append (λ (p : Bor (List ℕ)). p.now) pieces (piece ∷ [])

pub lent-at : (pieces : List (Bor (List ℕ))) (i : ℕ) (d : Bor (List ℕ)) → i < length pieces → get_or (lent pieces) i [] ≡ (get_or pieces i d).now
lent-at [] i d h = absurd (omega (arith, h))
lent-at (piece ∷ pieces) zero d h = refl
lent-at (piece ∷ pieces) (suc i) d h = lent-at pieces i d (omega (arith, h))

pub lent-long : (pieces : List (Bor (List ℕ))) → length (lent pieces) ≡ length pieces
lent-long [] = refl
lent-long (piece ∷ pieces) = ap suc (lent-long pieces)
