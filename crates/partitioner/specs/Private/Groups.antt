-- Keys grouped by length, and hashes without their highest bit, so that 2 ^ 32 - 1 is no hash.
use Rattle.std.specs.Prelude.{ℕ, zero, suc, ◌≡◌, ◌≢◌, ◌<◌, ◌+◌, ◌^◌, ◌-◌, List, [], length, ◌∷◌, replicate}
use Rattle.std.specs.Prelude.{slice_index, slice_set, slice_index_or as get_or}
use Rattle.std.specs.Simd.Lanes.{Each1, Each2}
use Rattle.std.specs.Borrow.{Bor}
use Rattle.partitioner.specs.Place.{place_in_topic, positive_hash}

-- stands for a missing key
abbrev pub no_key : Bor (List ℕ)
no_key = record { ref_ptr = (0, 0); now = [] }

-- a hash is the expected one, unless it is not computed yet
abbrev pub IsComputed : ℕ → ℕ → Type 0
IsComputed hash expected = hash ≢ 2 ^ 32 - 1 → hash ≡ expected

-- no hash is computed yet
abbrev pub AreUnhashed : List ℕ → Type 0
AreUnhashed hashes = (k : ℕ) → k < length hashes → slice_index hashes k ≡ 2 ^ 32 - 1

-- the partitions of count keys from this index on; a function gives the topic of each
abbrev pub ArePlacedFrom : List ℕ → (ℕ → ℕ) → List (Bor (List ℕ)) → ℕ → ℕ → List ℕ → Type 0
ArePlacedFrom counts topic keys from count places = (k : ℕ) (d : Bor (List ℕ)) → k < count
    → slice_index places k ≡ place_in_topic counts (topic (from + k)) (get_or keys (from + k) d).now

-- each hash is its key's, or not computed yet
unfoldable pub AreComputed : List (Bor (List ℕ)) → List ℕ → Type 0
AreComputed keys hashes = Each2 (λ key hash. IsComputed hash (positive_hash key.now)) keys hashes

-- an index of a key of this length
abbrev pub IsOfLength : List (Bor (List ℕ)) → ℕ → ℕ → Type 0
IsOfLength keys len i = (i < length keys) × (length (get_or keys i no_key).now ≡ len)

-- every index is that of a key of this length
unfoldable pub AreOfLength : List (Bor (List ℕ)) → ℕ → List ℕ → Type 0
AreOfLength keys len row = Each1 (λ i. IsOfLength keys len i) row

-- the group of this length has fewer than eight keys
abbrev pub IsPending : List (Bor (List ℕ)) → ℕ → List ℕ → ℕ → Type 0
IsPending keys len row count =
    (length row ≡ 8) × (count < 8) × (0 < count → AreOfLength keys len row)

-- each group of this or a greater length has fewer than eight keys
unfoldable pub ArePendingFrom : List (Bor (List ℕ)) → ℕ → List (List ℕ) → List ℕ → Type 0
ArePendingFrom keys len [] counts = Unit {0}
ArePendingFrom keys len (row ∷ rows) [] = Unit {0}
ArePendingFrom keys len (row ∷ rows) (count ∷ counts) =
    IsPending keys len row count × ArePendingFrom keys (suc len) rows counts

-- the group with one more index
abbrev pub extended_row : List ℕ → ℕ → ℕ → List ℕ
extended_row row zero i = replicate 8 i
extended_row row (suc count) i = slice_set row (suc count) i
