-- The index of a topic among the names of all.
use Rattle.std.proofs.Common.{◌≡◌, ◌<◌, ◌+◌, ◌∙◌, ℕ, List, [], ◌∷◌, ◌++◌, Bool, true, false, Some, Bor, length, map, get_or, drop, take, refl, ap, sym, arith}
use Rattle.std.proofs.lemmas.List.{drop_more, get_or-map, length-map, map-append, take_more}
use Rattle.std.specs.List.{position_from}

pub position-next : (t : List ℕ → Bool) (names : List (Bor (List ℕ))) (i : ℕ) (d : Bor (List ℕ)) → i < length names → t (get_or names i d).now ≡ false
    → position_from t i (drop i (map (λ name. name.now) names)) ≡ position_from t (i + 1) (drop (i + 1) (map (λ name. name.now) names))
position-next t names i d h e =
    rw (drop_more (map (λ (name : Bor (List ℕ)). name.now) names) i [] (omega (arith, h, length-map names (λ (name : Bor (List ℕ)). name.now))), get_or-map (λ (name : Bor (List ℕ)). name.now) names i d [] h, e) refl

pub position-here : (t : List ℕ → Bool) (names : List (Bor (List ℕ))) (i : ℕ) (d : Bor (List ℕ)) → i < length names → t (get_or names i d).now ≡ true
    → position_from t i (drop i (map (λ name. name.now) names)) ≡ Some i
position-here t names i d h e =
    rw (drop_more (map (λ (name : Bor (List ℕ)). name.now) names) i [] (omega (arith, h, length-map names (λ (name : Bor (List ℕ)). name.now))), get_or-map (λ (name : Bor (List ℕ)). name.now) names i d [] h, e) refl

pub taken-more : {X : Type 0} (f : List ℕ → X) (keys : List (Bor (List ℕ))) (i : ℕ) (key : Bor (List ℕ)) → i < length keys → key ≡ get_or keys i key
    → map f (take i (map (λ k. k.now) keys)) ++ f key.now ∷ [] ≡ map f (take (i + 1) (map (λ k. k.now) keys))
taken-more f keys i key h e =
    let all = map (λ (k : Bor (List ℕ)). k.now) keys in
    let within : i < length all = omega (arith, h, length-map keys (λ (k : Bor (List ℕ)). k.now)) in
    let same : get_or all i [] ≡ key.now = get_or-map (λ (k : Bor (List ℕ)). k.now) keys i key [] h ∙ ap (λ (k : Bor (List ℕ)). k.now) (sym e) in
    sym (ap (map f) (take_more all i [] within) ∙ map-append f (take i all) (get_or all i [] ∷ []) ∙ ap (λ k. map f (take i all) ++ f k ∷ []) same)
