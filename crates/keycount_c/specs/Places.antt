-- Where keys go.
use Rattle.std.specs.Prelude.{◌≡◌, ℕ, zero, suc, ◌<◌, ◌≤◌, ◌⊎◌, List, length, slice_index_or, slice_range}
use Rattle.lane_words.specs.declared.limits.TheConstants.{MOST_PARTITIONS}
use Rattle.partitioner.specs.Place.{place_of}
use Rattle.keycount_c.specs.declared.answers.TheConstants.{BAD_ARGUMENT, DONE}

-- there may be as many partitions
abbrev pub AreFew : ℕ → Type 0
AreFew partitions = (1 ≤ partitions) × (partitions ≤ MOST_PARTITIONS)

-- a call that finds the partition of a key
abbrev pub Places : ℕ → List ℕ → ℕ → ℕ → ℕ → Type 0
Places partitions key out number out' =
    (AreFew partitions × (number ≡ DONE) × (out' ≡ place_of partitions key))
    ⊎ ((AreFew partitions → ⊥) × (number ≡ BAD_ARGUMENT) × (out' ≡ out))

-- where a key ends, of keys that lie one after another, and where it begins
abbrev pub end_of_key : List ℕ → ℕ → ℕ
end_of_key ends i = slice_index_or ends i 0

abbrev pub start_of_key : List ℕ → ℕ → ℕ
start_of_key ends zero = 0
start_of_key ends (suc i) = end_of_key ends i

-- such a key
abbrev pub key_in : List ℕ → List ℕ → ℕ → List ℕ
key_in bytes ends i = slice_range bytes (start_of_key ends i) (end_of_key ends i)

-- each key ends where it begins or later, and within the bytes
abbrev pub AreKeys : ℕ → List ℕ → Type 0
AreKeys len ends =
    (i : ℕ) → i < length ends
    → (start_of_key ends i ≤ end_of_key ends i) × (end_of_key ends i ≤ len)

-- the partition of each key stands at its index, and the rest is as it was
pub record ArePlaced (partitions : ℕ) (bytes ends out out' : List ℕ) : Type 0 where
  pub len : length out' ≡ length out
  pub places : (i : ℕ) → i < length ends
      → slice_index_or out' i 0 ≡ place_of partitions (key_in bytes ends i)
  pub rest : (i : ℕ) → length ends ≤ i → slice_index_or out' i 0 ≡ slice_index_or out i 0

-- a call that finds the partitions of keys
pub record MayPlace (partitions : ℕ) (bytes ends out : List ℕ) : Type 0 where
  pub few : AreFew partitions
  pub keys : AreKeys (length bytes) ends
  pub room : length ends ≤ length out

abbrev pub PlacesAll : ℕ → List ℕ → List ℕ → List ℕ → ℕ → List ℕ → Type 0
PlacesAll partitions bytes ends out number out' =
    (MayPlace partitions bytes ends out × (number ≡ DONE)
    × ArePlaced partitions bytes ends out out')
    ⊎ ((MayPlace partitions bytes ends out → ⊥) × (number ≡ BAD_ARGUMENT) × (out' ≡ out))
