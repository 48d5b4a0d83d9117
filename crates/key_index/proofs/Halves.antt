-- Short keys in words.
use Rattle.std.proofs.Common.{ℕ, ◌≡◌, ◌+◌, ◌-◌, ◌*◌, ◌/◌, ◌%◌, ◌^◌, ◌<◌, ◌≤◌, List, [], ◌∷◌, ◌++◌, arith, get_or, length, refl, zero, suc}
use Rattle.std.specs.Int.{to_le_bytes, w64}
use Rattle.std.proofs.lemmas.Nat.{le_bytes_8}
use Rattle.key_index.specs.Private.KeyHash.{word_from, word_of}
use Rattle.key_index.specs.Private.KeyWords.{zeros}

small_zeros : (k i : ℕ) → get_or (zeros k) i 0 < 256
small_zeros zero i = omega arith
small_zeros (suc k) zero = omega arith
small_zeros (suc k) (suc i) = small_zeros k i

small_padded : (bytes : List ℕ) (k : ℕ) → ((i : ℕ) → get_or bytes i 0 < 256) → (i : ℕ) → get_or (bytes ++ zeros k) i 0 < 256
small_padded [] k small i = small_zeros k i
small_padded (a ∷ bytes) k small zero = small zero
small_padded (a ∷ bytes) k small (suc i) = small_padded bytes k (λ j. small (suc j)) i

four : (a b c d n : ℕ) → a < 256 → b < 256 → c < 256 → d < 256 → n ≡ word_of a b c d + word_of a b c d / 2 ^ 32 * 2 ^ 32 % 2 ^ 64 → n ≡ a + b * 256 + c * 65536 + d * 16777216
four a b c d n a' b' c' d' is = omega (arith, is)

five : (a b c d e n : ℕ) → a < 256 → b < 256 → c < 256 → d < 256 → e < 256 → n ≡ word_of a b c d + word_of b c d e / 2 ^ 24 * 2 ^ 32 % 2 ^ 64
    → n ≡ a + b * 256 + c * 65536 + d * 16777216 + e * 4294967296
five a b c d e n a' b' c' d' e' is = omega (arith, is)

six : (a b c d e f n : ℕ) → a < 256 → b < 256 → c < 256 → d < 256 → e < 256 → f < 256 → n ≡ word_of a b c d + word_of c d e f / 2 ^ 16 * 2 ^ 32 % 2 ^ 64
    → n ≡ a + b * 256 + c * 65536 + d * 16777216 + e * 4294967296 + f * 1099511627776
six a b c d e f n a' b' c' d' e' f' is = omega (arith, is)

seven : (a b c d e f g n : ℕ) → a < 256 → b < 256 → c < 256 → d < 256 → e < 256 → f < 256 → g < 256 → n ≡ word_of a b c d + word_of d e f g / 2 ^ 8 * 2 ^ 32 % 2 ^ 64
    → n ≡ a + b * 256 + c * 65536 + d * 16777216 + e * 4294967296 + f * 1099511627776 + g * 281474976710656
seven a b c d e f g n a' b' c' d' e' f' g' is = omega (arith, is)

pub halves : (rest : List ℕ) (n : ℕ) → 4 ≤ length rest → length rest < 8 → ((i : ℕ) → get_or rest i 0 < 256)
    → n ≡ word_from rest 0 + word_from rest (length rest - 4) / 2 ^ (8 * (8 - length rest)) * 2 ^ 32 % 2 ^ 64 → to_le_bytes w64 n ≡ rest ++ zeros (8 - length rest)
halves (a ∷ b ∷ c ∷ d ∷ []) n least most small is =
    le_bytes_8 _ n refl (small_padded (a ∷ b ∷ c ∷ d ∷ []) 4 small) (omega (arith, four a b c d n (small 0) (small 1) (small 2) (small 3) is))
halves (a ∷ b ∷ c ∷ d ∷ e ∷ []) n least most small is =
    le_bytes_8 _ n refl (small_padded (a ∷ b ∷ c ∷ d ∷ e ∷ []) 3 small) (omega (arith, five a b c d e n (small 0) (small 1) (small 2) (small 3) (small 4) is))
halves (a ∷ b ∷ c ∷ d ∷ e ∷ f ∷ []) n least most small is =
    le_bytes_8 _ n refl (small_padded (a ∷ b ∷ c ∷ d ∷ e ∷ f ∷ []) 2 small) (omega (arith, six a b c d e f n (small 0) (small 1) (small 2) (small 3) (small 4) (small 5) is))
halves (a ∷ b ∷ c ∷ d ∷ e ∷ f ∷ g ∷ []) n least most small is =
    le_bytes_8 _ n refl (small_padded (a ∷ b ∷ c ∷ d ∷ e ∷ f ∷ g ∷ []) 1 small) (omega (arith, seven a b c d e f g n (small 0) (small 1) (small 2) (small 3) (small 4) (small 5) (small 6) is))
halves [] n least most small is = absurd (omega arith)
halves (a ∷ []) n least most small is = absurd (omega arith)
halves (a ∷ b ∷ []) n least most small is = absurd (omega arith)
halves (a ∷ b ∷ c ∷ []) n least most small is = absurd (omega arith)
halves (a ∷ b ∷ c ∷ d ∷ e ∷ f ∷ g ∷ h ∷ rest) n least most small is = absurd (omega arith)
