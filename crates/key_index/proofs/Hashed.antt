-- The seeds, one by one, and the sum of a short key with zeros behind it.
use Rattle.std.proofs.Common.{ℕ, ◌≡◌, ◌+◌, ◌-◌, ◌*◌, ◌%◌, ◌^◌, ◌<◌, ◌∙◌, List, [], ◌∷◌, ◌++◌, ap, arith, get_or, get_or-set_other, get_or-set_same, inl, inr, length, refl, sym, zero, suc}
use Rattle.std.specs.Int.{to_le_bytes, w64}
use Rattle.std.specs.Prelude.{slice_set}
use Rattle.std.proofs.lemmas.Bool.{cases_eq}
use Rattle.key_index.specs.Private.KeyHash.{with_product, with_products, word_of}
use Rattle.key_index.specs.Private.KeyWords.{all_bytes, zeros}

pub seed-more : (f : ℕ → ℕ) (seeds : List ℕ) (i seed : ℕ) → i < length seeds → seed ≡ f i → ((k : ℕ) → k < i → get_or seeds k 0 ≡ f k) → (k : ℕ) → k < i + 1 → get_or (slice_set seeds i seed) k 0 ≡ f k
seed-more f seeds i seed lt is so = λ k below.
    elim (cases_eq k i) [
      | inl same ↦ ap (λ m. get_or (slice_set seeds i seed) m 0) same ∙ get_or-set_same seeds i seed 0 lt ∙ is ∙ ap f (sym same)
      | inr other ↦ get_or-set_other seeds i k seed 0 other ∙ so k (omega (arith, below, other))
    ]

six-words : (seeds : List ℕ) (sum first second third : ℕ) → length seeds ≡ 8
    → with_products (with_products (with_products sum (get_or seeds 0 0 ∷ get_or seeds 1 0 ∷ []) (to_le_bytes w64 first)) (get_or seeds 2 0 ∷ get_or seeds 3 0 ∷ []) (to_le_bytes w64 second)) (get_or seeds 4 0 ∷ get_or seeds 5 0 ∷ []) (to_le_bytes w64 third)
    ≡ with_products sum seeds (all_bytes first second third)
six-words (a ∷ b ∷ c ∷ d ∷ e ∷ f ∷ seeds) sum first second third long = refl
six-words [] sum first second third long = absurd (omega arith)
six-words (a ∷ []) sum first second third long = absurd (omega arith)
six-words (a ∷ b ∷ []) sum first second third long = absurd (omega arith)
six-words (a ∷ b ∷ c ∷ []) sum first second third long = absurd (omega arith)
six-words (a ∷ b ∷ c ∷ d ∷ []) sum first second third long = absurd (omega arith)
six-words (a ∷ b ∷ c ∷ d ∷ e ∷ []) sum first second third long = absurd (omega arith)

without : (sum seed n : ℕ) → sum < 2 ^ 64 → n ≡ 0 → with_product sum seed n ≡ sum
without sum seed n lt is =
    let none : seed * n ≡ 0 = ap (λ m. seed * m) is ∙ omega arith in
    ap (λ m. (sum + m % 2 ^ 64) % 2 ^ 64) none ∙ omega (arith, lt)

no-words : (sum : ℕ) (seeds : List ℕ) (n : ℕ) → sum < 2 ^ 64 → with_products sum seeds (zeros n) ≡ sum
no-words sum seeds zero lt = refl
no-words sum [] (suc n) lt = refl
no-words sum (seed ∷ seeds) (suc zero) lt = without sum seed _ lt refl
no-words sum (seed ∷ seeds) (suc (suc zero)) lt = without sum seed _ lt refl
no-words sum (seed ∷ seeds) (suc (suc (suc zero))) lt = without sum seed _ lt refl
no-words sum (seed ∷ seeds) (suc (suc (suc (suc n)))) lt = ap (λ s. with_products s seeds (zeros n)) (without sum seed _ lt refl) ∙ no-words sum seeds n lt

no-more : (sum : ℕ) (seeds key : List ℕ) (n : ℕ) → sum < 2 ^ 64 → with_products sum seeds (key ++ zeros n) ≡ with_products sum seeds key
no-more sum seeds [] n lt = no-words sum seeds n lt
no-more sum [] (a ∷ key) n lt = refl
no-more sum (seed ∷ seeds) (a ∷ b ∷ c ∷ d ∷ key) n lt = no-more (with_product sum seed (word_of a b c d)) seeds key n (omega arith)
no-more sum (seed ∷ seeds) (a ∷ []) zero lt = refl
no-more sum (seed ∷ seeds) (a ∷ []) (suc zero) lt = ap (with_product sum seed) (omega arith)
no-more sum (seed ∷ seeds) (a ∷ []) (suc (suc zero)) lt = ap (with_product sum seed) (omega arith)
no-more sum (seed ∷ seeds) (a ∷ []) (suc (suc (suc n))) lt = no-words (with_product sum seed (word_of a 0 0 0)) seeds n (omega arith) ∙ ap (with_product sum seed) (omega arith)
no-more sum (seed ∷ seeds) (a ∷ b ∷ []) zero lt = refl
no-more sum (seed ∷ seeds) (a ∷ b ∷ []) (suc zero) lt = ap (with_product sum seed) (omega arith)
no-more sum (seed ∷ seeds) (a ∷ b ∷ []) (suc (suc n)) lt = no-words (with_product sum seed (word_of a b 0 0)) seeds n (omega arith) ∙ ap (with_product sum seed) (omega arith)
no-more sum (seed ∷ seeds) (a ∷ b ∷ c ∷ []) zero lt = refl
no-more sum (seed ∷ seeds) (a ∷ b ∷ c ∷ []) (suc n) lt = no-words (with_product sum seed (word_of a b c 0)) seeds n (omega arith) ∙ ap (with_product sum seed) (omega arith)

pub sum-of-words : (seeds key : List ℕ) (sum first second third : ℕ) → sum < 2 ^ 64 → length seeds ≡ 8 → all_bytes first second third ≡ key ++ zeros (24 - length key)
    → with_products (with_products (with_products sum (get_or seeds 0 0 ∷ get_or seeds 1 0 ∷ []) (to_le_bytes w64 first)) (get_or seeds 2 0 ∷ get_or seeds 3 0 ∷ []) (to_le_bytes w64 second)) (get_or seeds 4 0 ∷ get_or seeds 5 0 ∷ []) (to_le_bytes w64 third)
    ≡ with_products sum seeds key
sum-of-words seeds key sum first second third lt long is =
    six-words seeds sum first second third long ∙ ap (with_products sum seeds) is ∙ no-more sum seeds key (24 - length key) lt
