-- The bits of words of 64 bits.
use Rattle.std.specs.Prelude.{◌≡◌, ℕ, ◌*◌, ◌/◌, ◌%◌, ◌<◌, ◌≤◌, ◌==◌, ◌&&◌, Bool, true, false, nat_lt, List, slice_index, length}
use Rattle.std.specs.Int.{bit_at}
use Rattle.bit_planes.specs.PartitionSet.{how_many}

-- whether bit k of a word is set
unfoldable pub is_bit : ℕ → ℕ → Bool
is_bit word k = bit_at word k == 1

-- whether the bit of a number is set: bit q % 64 of word q / 64
unfoldable pub bit_of : List ℕ → ℕ → Bool
bit_of words q = is_bit (slice_index words (q / 64)) (q % 64)

-- a word's bits are those below n
abbrev pub HasBitsBelow : ℕ → ℕ → Type 0
HasBitsBelow n word = (k : ℕ) → k < 64 → is_bit word k ≡ nat_lt k n

-- a word's bits are the n lowest of another, or all
abbrev pub HasLowestBits : ℕ → ℕ → ℕ → Type 0
HasLowestBits n old word = (k : ℕ) → k < 64
    → is_bit word k ≡ (is_bit old k && nat_lt (how_many k (is_bit old)) n)

-- no bit is set from a number on
abbrev pub AreClearFrom : List ℕ → ℕ → Type 0
AreClearFrom words from = (q : ℕ) → from ≤ q → bit_of words q ≡ false

-- q is the lowest number at or above `from` whose bit is set
pub record IsLowestFrom (words : List ℕ) (from q : ℕ) : Type 0 where
  pub set : bit_of words q ≡ true
  pub not_below : from ≤ q
  pub within : q < 64 * length words
  pub clear : (n : ℕ) → from ≤ n → n < q → bit_of words n ≡ false
