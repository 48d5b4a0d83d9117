-- Keys with zeros behind them.
use Rattle.std.proofs.Common.{ℕ, ◌≡◌, ◌+◌, ◌-◌, ◌<◌, ◌≤◌, ◌∙◌, List, [], ◌∷◌, ◌++◌, ap, ap₂, arith, drop, length, length-drop, sym, take, take_all}
use Rattle.std.specs.Int.{to_le_bytes, w64}
use Rattle.std.specs.Prelude.{slice_range}
use Rattle.std.proofs.Math.Seq.{take-add, take-append_seam}
use Rattle.std.proofs.lemmas.List.{append_assoc, length-take-le, replicate-append-replicate, take-append-drop, take-append-le, take-take}
use Rattle.key_index.specs.declared.stored_key.TheConstants.{LONGEST_INLINE}
use Rattle.key_index.specs.Private.KeyWords.{IsPadded, all_bytes, zeros}

pub key-of : (key bytes : List ℕ) → bytes ≡ key ++ zeros (24 - length key) → take (length key) bytes ≡ key
key-of key bytes is = ap (take (length key)) is ∙ take-append_seam key (zeros (24 - length key))

pub padded : (key bytes : List ℕ) → length key ≤ LONGEST_INLINE → bytes ≡ key ++ zeros (24 - length key) → IsPadded bytes (length key)
padded key bytes short is = (short, is ∙ ap (λ k. k ++ zeros (24 - length key)) (sym (key-of key bytes is)))

more-zeros : (key : List ℕ) (n m : ℕ) → (key ++ zeros n) ++ zeros m ≡ key ++ zeros (n + m)
more-zeros key n m = append_assoc key (zeros n) (zeros m) ∙ ap (λ k. key ++ k) (replicate-append-replicate n m 0)

rest-of : (key : List ℕ) (n : ℕ) → n ≤ length key → slice_range key n (length key) ≡ drop n key
rest-of key n le = take_all (length key - n) (drop n key) (omega (arith, le, length-drop n key))

pub one-word : (key : List ℕ) (first : ℕ) → length key < 8 → to_le_bytes w64 first ≡ key ++ zeros (8 - length key) → all_bytes first 0 0 ≡ key ++ zeros (24 - length key)
one-word key first lt is =
    let sum : 8 - length key + 16 ≡ 24 - length key = omega (arith, lt) in
    ap (λ w. w ++ zeros 16) is ∙ more-zeros key (8 - length key) 16 ∙ ap (λ n. key ++ zeros n) sum

pub two-words : (key : List ℕ) (first second : ℕ) → 8 ≤ length key → length key < 16 → to_le_bytes w64 first ≡ slice_range key 0 8
    → to_le_bytes w64 second ≡ slice_range key 8 (length key) ++ zeros (8 - length (slice_range key 8 (length key))) → all_bytes first second 0 ≡ key ++ zeros (24 - length key)
two-words key first second le lt begins ends =
    let rest = rest-of key 8 le in
    let sum : 8 - length (drop 8 key) + 8 ≡ 24 - length key = omega (arith, lt, le, length-drop 8 key) in
    ap₂ (λ a b. a ++ (b ++ zeros 8)) begins (ends ∙ ap (λ r. r ++ zeros (8 - length r)) rest)
    ∙ ap (λ b. take 8 key ++ b) (more-zeros (drop 8 key) (8 - length (drop 8 key)) 8 ∙ ap (λ n. drop 8 key ++ zeros n) sum)
    ∙ sym (append_assoc (take 8 key) (drop 8 key) (zeros (24 - length key)))
    ∙ ap (λ k. k ++ zeros (24 - length key)) (take-append-drop 8 key)

pub three-words : (key : List ℕ) (first second third : ℕ) → 16 ≤ length key → length key < 24 → to_le_bytes w64 first ≡ slice_range key 0 8 → to_le_bytes w64 second ≡ slice_range key 8 16
    → to_le_bytes w64 third ≡ slice_range key 16 (length key) ++ zeros (8 - length (slice_range key 16 (length key))) → all_bytes first second third ≡ key ++ zeros (24 - length key)
three-words key first second third le lt begins goes ends =
    let rest = rest-of key 16 le in
    let sum : 8 - length (drop 16 key) ≡ 24 - length key = omega (arith, lt, le, length-drop 16 key) in
    let front : take 8 key ++ take 8 (drop 8 key) ≡ take 16 key = sym (take-add 8 8 key) in
    ap₂ (λ a b. a ++ b) begins (ap₂ (λ a b. a ++ b) goes (ends ∙ ap (λ r. r ++ zeros (8 - length r)) rest ∙ ap (λ n. drop 16 key ++ zeros n) sum))
    ∙ sym (append_assoc (take 8 key) (take 8 (drop 8 key)) (drop 16 key ++ zeros (24 - length key)))
    ∙ ap (λ k. k ++ (drop 16 key ++ zeros (24 - length key))) front
    ∙ sym (append_assoc (take 16 key) (drop 16 key) (zeros (24 - length key)))
    ∙ ap (λ k. k ++ zeros (24 - length key)) (take-append-drop 16 key)

pub first-bytes : (key bytes : List ℕ) (size : ℕ) → length bytes ≡ 24 → size ≤ 22 → key ≡ take size bytes → take (length key) (take 22 bytes) ≡ key
first-bytes key bytes size long short is =
    let same : length key ≡ size = ap length is ∙ length-take-le size bytes (omega (arith, long, short)) in
    ap (λ n. take n (take 22 bytes)) same ∙ take-take size 22 bytes short ∙ sym is

pub words-of : (bytes : List ℕ) (first second third size : ℕ) → length bytes ≡ 22 → size ≤ 22 → to_le_bytes w64 first ≡ slice_range bytes 0 8 → to_le_bytes w64 second ≡ slice_range bytes 8 16
    → to_le_bytes w64 third ≡ slice_range bytes 16 22 ++ 0 ∷ 0 ∷ [] → take size bytes ≡ take size (all_bytes first second third)
words-of bytes first second third size long short begins goes ends =
    let last : take 6 (drop 16 bytes) ≡ drop 16 bytes = take_all 6 (drop 16 bytes) (omega (arith, long, length-drop 16 bytes)) in
    let front : take 8 bytes ++ take 8 (drop 8 bytes) ≡ take 16 bytes = sym (take-add 8 8 bytes) in
    let all : all_bytes first second third ≡ bytes ++ 0 ∷ 0 ∷ [] =
    ap₂ (λ a b. a ++ b) (ap₂ (λ a b. a ++ b) begins goes ∙ front) (ends ∙ ap (λ r. r ++ 0 ∷ 0 ∷ []) last)
    ∙ sym (append_assoc (take 16 bytes) (drop 16 bytes) (0 ∷ 0 ∷ []))
    ∙ ap (λ k. k ++ 0 ∷ 0 ∷ []) (take-append-drop 16 bytes) in
    sym (ap (take size) all ∙ take-append-le size bytes (0 ∷ 0 ∷ []) (omega (arith, long, short)))
