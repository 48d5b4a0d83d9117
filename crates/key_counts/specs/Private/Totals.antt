-- Counts added up by key number.
use Rattle.std.specs.Prelude.{◌≡◌, ◌<◌, ℕ, ◌+◌, ◌^◌, ◌==◌, List, [], ◌∷◌, cond, length, slice_index}

-- the sum of the counts of the entries with this key number
unfoldable pub added : List ℕ → List ℕ → ℕ → ℕ
added [] counts id = 0
added (i ∷ ids) [] id = 0
added (i ∷ ids) (n ∷ counts) id = cond (i == id) n 0 + added ids counts id

-- no total passes 64 bits when these counts are added
abbrev pub AreAddable : List ℕ → List ℕ → List ℕ → Type 0
AreAddable totals ids counts =
    (id : ℕ) → id < length totals → slice_index totals id + added ids counts id < 2 ^ 64

-- totals to which these counts were added
abbrev pub AreAdded : List ℕ → List ℕ → List ℕ → List ℕ → Type 0
AreAdded old ids counts new =
    (id : ℕ) → id < length old → slice_index new id ≡ slice_index old id + added ids counts id

-- as many totals as there are keys: of each key number the sum of its counts
pub record AreTotals (keys : ℕ) (ids counts totals : List ℕ) : Type 0 where
  pub len : length totals ≡ keys
  pub each : (id : ℕ) → id < keys → slice_index totals id ≡ added ids counts id
