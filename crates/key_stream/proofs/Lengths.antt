-- How long pieces are together.
use Rattle.std.proofs.Common.{◌≡◌, ◌∙◌, ◌+◌, ◌<◌, ◌≤◌, ℕ, List, [], ◌∷◌, ◌++◌, Bor, length, take, get_or, ap, arith, length-append, append-nil}
use Rattle.std.proofs.lemmas.List.{get_or-map, length-map, take_more}
use Rattle.std.proofs.lemmas.List.Concat.{flat_map-append}
use Rattle.std.proofs.lemmas.List.Folds.{length-flat_map-take}
use Rattle.csv_ingest.specs.Private.Pieces.{bytes_of, lent}

piece-at : (pieces : List (Bor (List ℕ))) (i : ℕ) (d : Bor (List ℕ)) → i < length pieces → get_or (lent pieces) i [] ≡ (get_or pieces i d).now
piece-at pieces i d lt = get_or-map (λ (p : Bor (List ℕ)). p.now) pieces i d [] lt

lent-many : (pieces : List (Bor (List ℕ))) → length (lent pieces) ≡ length pieces
lent-many pieces = length-map pieces (λ (p : Bor (List ℕ)). p.now)

pub length-next : (pieces : List (Bor (List ℕ))) (i : ℕ) (d : Bor (List ℕ)) → i < length pieces
    → length (bytes_of (take (i + 1) (lent pieces))) ≡ length (bytes_of (take i (lent pieces))) + length (get_or pieces i d).now
length-next pieces i d lt =
    let long : i < length (lent pieces) = omega (arith, lt, lent-many pieces) in
    let piece = get_or (lent pieces) i [] in
    let more : bytes_of (take (i + 1) (lent pieces)) ≡ bytes_of (take i (lent pieces)) ++ piece =
    ap bytes_of (take_more (lent pieces) i [] long) ∙ flat_map-append (λ (p : List ℕ). p) (take i (lent pieces)) (piece ∷ []) ∙ ap (λ xs. bytes_of (take i (lent pieces)) ++ xs) (append-nil piece) in
    ap length more ∙ length-append (bytes_of (take i (lent pieces))) piece ∙ ap (λ p. length (bytes_of (take i (lent pieces))) + length p) (piece-at pieces i d lt)

pub length-within : (pieces : List (Bor (List ℕ))) (i : ℕ) (d : Bor (List ℕ)) → i < length pieces
    → length (bytes_of (take i (lent pieces))) + length (get_or pieces i d).now ≤ length (bytes_of (lent pieces))
length-within pieces i d lt =
    let long : i < length (lent pieces) = omega (arith, lt, lent-many pieces) in
    let e = ap length (piece-at pieces i d lt) in
    let f = length-flat_map-take (λ (p : List ℕ). p) (lent pieces) i [] long in
    omega (arith, e, f)
