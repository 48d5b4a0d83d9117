-- Hashes of several keys, lane by lane.
use Rattle.std.proofs.Common.{ℕ, ◌≡◌, ◌+◌, ◌<◌, ◌≤◌, List, [], ◌∷◌, length, drop, refl, arith, zero, suc, get_or, map, Bor, replicate}
use Rattle.std.specs.Simd.Lanes.{zip2}
use Rattle.murmur_lanes.specs.Murmur.{hash_rest, hash_of, absorbed, begun}
use Rattle.murmur_lanes.specs.Private.Words.{word_from}
use Rattle.murmur_lanes.proofs.Hashes.{one_more_word}

abbrev pub no_key : Bor (List ℕ)
no_key = record { ref_ptr = (0, 0); now = [] }

-- all keys have this length
abbrev pub AreLong : ℕ → List (Bor (List ℕ)) → Type 0
AreLong len keys = (i : ℕ) → i < length keys → length (get_or keys i no_key).now ≡ len

pub lanes_start : (n len hash : ℕ) (keys : List (Bor (List ℕ))) → ((key : List ℕ) → length key ≡ len → hash ≡ begun key) → length keys ≡ n → AreLong len keys → zip2 (λ h key. hash_rest h (drop 0 key.now)) (replicate n hash) keys ≡ map (λ key. hash_of key.now) keys
lanes_start zero len hash [] begins e long = refl
lanes_start zero len hash (k ∷ keys) begins e long = absurd (omega arith)
lanes_start (suc n) len hash [] begins e long = absurd (omega arith)
lanes_start (suc n) len hash (k ∷ keys) begins e long =
    let same : hash ≡ begun k.now = begins k.now (long 0 (omega arith)) in
    let ih : zip2 (λ h key. hash_rest h (drop 0 key.now)) (replicate n hash) keys ≡ map (λ key. hash_of key.now) keys = lanes_start n len hash keys begins (omega arith) (λ i lt. long (suc i) (omega arith)) in
    rw (ih, same) refl

pub lanes_step : (len at : ℕ) (hs : List ℕ) (keys : List (Bor (List ℕ))) → AreLong len keys → at + 4 ≤ len → zip2 (λ h key. hash_rest h (drop (at + 4) key.now)) (zip2 absorbed hs (map (λ key. word_from key.now at) keys)) keys ≡ zip2 (λ h key. hash_rest h (drop at key.now)) hs keys
lanes_step len at [] keys long le = refl
lanes_step len at (h ∷ hs) [] long le = refl
lanes_step len at (h ∷ hs) (k ∷ keys) long le =
    let same : length k.now ≡ len = long 0 (omega arith) in
    let ih : zip2 (λ h key. hash_rest h (drop (at + 4) key.now)) (zip2 absorbed hs (map (λ key. word_from key.now at) keys)) keys ≡ zip2 (λ h key. hash_rest h (drop at key.now)) hs keys = lanes_step len at hs keys (λ i lt. long (suc i) (omega arith)) le in
    rw (ih, one_more_word k.now h at (omega arith)) refl

pub eight_pairs : {A B C : Type 0} (f : A → B → C) (xs : List A) (ys : List B) (x : A) (y : B) → length xs ≡ 8 → length ys ≡ 8 → zip2 f xs ys ≡ f (get_or xs 0 x) (get_or ys 0 y) ∷ f (get_or xs 1 x) (get_or ys 1 y) ∷ f (get_or xs 2 x) (get_or ys 2 y) ∷ f (get_or xs 3 x) (get_or ys 3 y) ∷ f (get_or xs 4 x) (get_or ys 4 y) ∷ f (get_or xs 5 x) (get_or ys 5 y) ∷ f (get_or xs 6 x) (get_or ys 6 y) ∷ f (get_or xs 7 x) (get_or ys 7 y) ∷ []
eight_pairs f (a ∷ b ∷ c ∷ d ∷ e ∷ g ∷ h ∷ i ∷ []) (a' ∷ b' ∷ c' ∷ d' ∷ e' ∷ g' ∷ h' ∷ i' ∷ []) x y p q = refl
eight_pairs f (a ∷ b ∷ c ∷ d ∷ e ∷ g ∷ h ∷ i ∷ []) _ x y p q = absurd (omega arith)
eight_pairs f _ ys x y p q = absurd (omega arith)
