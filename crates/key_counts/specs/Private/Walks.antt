-- Entries merged in their order: a key that is in no class is new, and one of a class is new if its
-- number there is the next.
use Rattle.std.specs.Prelude.{◌≡◌, ◌≤◌, ◌<◌, ◌+◌, ◌-◌, ◌++◌, ◌==◌, ℕ, Bool, true, false, List, [], ◌∷◌, Option, Some, None, drop, filter, if◌then◌else◌, length, map, slice_index, slice_index_or, take}
use Rattle.key_index.specs.Keys.{Key, distinct, id_of, is_interned, key_at, lent}
use Rattle.key_counts.specs.Counts.{Entries, total}
use Rattle.key_counts.specs.Private.Twins.{IsOnce}
use Rattle.key_counts.specs.Segments.{is_key, totals_of}
use Rattle.key_counts.specs.declared.classes.Class.{Class}
use Rattle.key_counts.specs.declared.classes.Totals.{Totals}
use Rattle.key_counts.specs.declared.merging.Segment.{Segment}
use Rattle.key_counts.specs.declared.twins.TheConstants.{CLASSES}
use Rattle.key_counts.specs.declared.walk.Position.{Position}
use Rattle.key_counts.specs.declared.walk.Walk.{Walk}

-- whether a key is of this class, where classes are counted from 0
abbrev pub is_of : (Key → ℕ) → ℕ → Key → Bool
is_of class c key = class key == c + 1

-- the counts of the keys that pass
unfoldable pub kept : (Key → Bool) → List Key → List ℕ → List ℕ
kept p [] counts = []
kept p (key ∷ keys) [] = []
kept p (key ∷ keys) (n ∷ counts) = if p key then n ∷ kept p keys counts else kept p keys counts

-- these are the key numbers of the keys that pass, and the total of each number
pub record AreTotalled (p : Key → Bool) (all : List Key) (counts : List ℕ) (t : Totals)
    : Type 0 where
  pub ids : t.ids.items ≡ map (id_of (distinct (filter p all))) (filter p all)
  pub totals : t.totals.items
      ≡ totals_of (distinct (filter p all)) (filter p all) (kept p all counts)

-- each class is totalled, and a key of none is there once
pub record AreClasses (class : Key → ℕ) (all : List Key) (counts : List ℕ) (classes : List Class)
    : Type 0 where
  pub once : IsOnce class all
  pub len : length counts ≡ length all
  pub count : length classes ≡ CLASSES
  pub each : (c : ℕ) (d : Class) → c < CLASSES
      → AreTotalled (is_of class c) all counts (slice_index_or classes c d).totals

-- of the first k entries so many have a key that passes, and these have so many distinct keys
pub record IsAt (p : Key → Bool) (all : List Key) (k : ℕ) (position : Position) : Type 0 where
  pub at : position.at ≡ length (filter p (take k all))
  pub next : position.next ≡ length (distinct (filter p (take k all)))

-- the same of each class
pub record AreAt (class : Key → ℕ) (all : List Key) (k : ℕ) (positions : List Position) : Type 0 where
  pub count : length positions ≡ CLASSES
  pub each : (c : ℕ) (d : Position) → c < CLASSES
      → IsAt (is_of class c) all k (slice_index_or positions c d)

-- nothing is merged yet from these positions on
pub record IsStart (positions : List Position) (walk : Walk) : Type 0 where
  pub keys : lent walk.keys.items ≡ []
  pub counts : walk.counts.items ≡ []
  pub same : walk.positions ≡ positions

-- the entries after the first `from` are merged, up to the first k
pub record IsWalked (class : Key → ℕ) (all : List Key) (counts : List ℕ) (from k : ℕ) (walk : Walk)
    : Type 0 where
  pub keys : distinct (take from all) ++ lent walk.keys.items ≡ distinct (take k all)
  pub totals : totals_of (distinct (take from all)) all counts ++ walk.counts.items
      ≡ totals_of (distinct (take k all)) all counts
  pub here : AreAt class all k walk.positions

-- the entry after the first k
pub record IsNext (all : List Key) (counts : List ℕ) (k : ℕ) (key : Key) (n : ℕ) : Type 0 where
  pub within : k < length all
  pub same : key ≡ key_at all k
  pub count : n ≡ slice_index counts k

-- the total of the key of the entry after the first k, if none of these has the key
abbrev pub IsNewTotal : List Key → List ℕ → ℕ → Key → Option ℕ → Type 0
IsNewTotal all counts k key None = is_interned (distinct (take k all)) key ≡ true
IsNewTotal all counts k key (Some n) =
    (is_interned (distinct (take k all)) key ≡ false) × (n ≡ total (is_key key) all counts)

-- one more entry of a class is passed
abbrev pub Passes : Totals → Position → Position → Option ℕ → Type 0
Passes t old new found =
    (p : Key → Bool) (all : List Key) (counts : List ℕ) (k : ℕ) (key : Key) (n : ℕ)
    → p key ≡ true → AreTotalled p all counts t → IsNext all counts k key n → IsAt p all k old
    → IsAt p all (k + 1) new × IsNewTotal all counts k key found

-- one more entry is merged, whose key has this class, or none if it is 0
abbrev pub WalksOn : ℕ → List Class → Key → ℕ → Walk → Walk → Type 0
WalksOn of classes key n old new =
    (class : Key → ℕ) (all : List Key) (counts : List ℕ) (from k : ℕ) → class key ≡ of
    → AreClasses class all counts classes → IsNext all counts k key n
    → IsWalked class all counts from k old → IsWalked class all counts from (k + 1) new

-- the entries of a segment follow the first k
pub record AreNext (skip : ℕ) (entries : Entries) (s : Segment) (all : List Key) (counts : List ℕ)
    (k : ℕ) : Type 0 where
  pub within : k + (s.to - s.from) ≤ length all
  pub each : (j : ℕ) → j < s.to - s.from
      → IsNext all counts (k + j) (drop skip (key_at entries.keys (s.from + j)))
      (slice_index entries.counts (s.from + j))

-- the entries of a segment are merged
abbrev pub WalksOver : (Key → ℕ) → List Class → ℕ → Entries → Segment → Walk → Walk → Type 0
WalksOver class classes skip entries s old new =
    (all : List Key) (counts : List ℕ) (from k : ℕ) → AreClasses class all counts classes
    → AreNext skip entries s all counts k
    → IsWalked class all counts from k old → IsWalked class all counts from (k + (s.to - s.from)) new
