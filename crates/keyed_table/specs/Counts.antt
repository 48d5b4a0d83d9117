-- How often key numbers occur in a list, and counters by key number.
use Rattle.std.specs.Prelude.{ℕ, ◌+◌, ◌<◌, ◌^◌, ◌==◌, List, [], ◌∷◌, length, count_by, slice_index_or}

-- the plain count: the number of positions of the list that hold x
abbrev pub plain : List ℕ → ℕ → ℕ
plain ids x = count_by (λ y. x == y) ids

-- counters by key number, and the capacity for more
pub record Counters : Type 0 where
  pub counts : List ℕ
  pub capacity : ℕ

-- the counter of a key number; zero if there is none
abbrev pub counter_of : List ℕ → ℕ → ℕ
counter_of counts x = slice_index_or counts x 0

-- the counters from number x on, each raised by how often its number is in the list
abbrev pub raised_from : ℕ → List ℕ → List ℕ → List ℕ
raised_from x [] ids = []
raised_from x (n ∷ counts) ids = (n + plain ids x) ∷ raised_from (x + 1) counts ids

-- all counters, each raised by how often its number is in the list
unfoldable pub raised : List ℕ → List ℕ → List ℕ
raised counts ids = raised_from 0 counts ids

-- each of these numbers has a counter
abbrev pub HaveCounters : List ℕ → List ℕ → Type 0
HaveCounters counts ids = (x : ℕ) → 0 < plain ids x → x < length counts

-- no counter exceeds 64 bits with this list
abbrev pub SumsFit : List ℕ → List ℕ → Type 0
SumsFit counts ids = (x : ℕ) → counter_of counts x + plain ids x < 2 ^ 64
