-- Counted keys. Entries are keys, each with the number of records that it took. A key can have more
-- than one entry: how many there are decides time and memory, and never what they come to.
use Rattle.std.specs.Prelude.{◌≡◌, ℕ, ◌+◌, ◌*◌, Bool, true, false, All, List, [], ◌∷◌, ◌++◌, fold, map, sum_by}
use Rattle.key_index.specs.Keys.{Key, is_interned, key_at, with_key}

-- entries: their keys, the number of records that each took, and if `coded` says so, the code of each
-- record's entry, in the order of the records
pub record Entries : Type 0 where
  pub keys : List Key
  pub counts : List ℕ
  pub coded : Bool
  pub codes : List ℕ

-- no entries, which took no record
abbrev pub no_entries : Bool → Entries
no_entries coded = record { keys = []; counts = []; coded = coded; codes = [] }

-- the keys of the records that have a code
abbrev pub records_of : Entries → List Key
records_of entries = map (key_at entries.keys) entries.codes

-- those of these records that get a code: all or none
abbrev pub recorded : Bool → List Key → List Key
recorded true taken = taken
recorded false taken = []

-- the sum of a function over the keys of records, from entries that took them
unfoldable pub total : (Key → ℕ) → List Key → List ℕ → ℕ
total f [] counts = 0
total f (key ∷ keys) [] = 0
total f (key ∷ keys) (n ∷ counts) = n * f key + total f keys counts

-- the same, of entries
abbrev pub total_of : (Key → ℕ) → Entries → ℕ
total_of f entries = total f entries.keys entries.counts

-- each of the first keys is among the second
abbrev pub AreInterned : List Key → List Key → Type 0
AreInterned known keys = All (λ key. is_interned keys key ≡ true) known

-- wherever the known keys have come before, both lists bring the same new keys in the same order
abbrev pub BringTheSame : List Key → List Key → List Key → Type 0
BringTheSame known xs ys =
    (before : List Key) → AreInterned known before
    → fold with_key before xs ≡ fold with_key before ys

-- entries took records of these keys: each counts once for its key, and the new entries bring the
-- keys that are new, in the order of their first appearance
pub record Takes (old new : Entries) (taken : List Key) : Type 0 where
  pub added : List Key
  pub grown : new.keys ≡ old.keys ++ added
  pub order : BringTheSame old.keys taken added
  pub counted : (f : Key → ℕ) → total_of f new ≡ total_of f old + sum_by f taken
  pub same : new.coded ≡ old.coded
  pub records : records_of new ≡ records_of old ++ recorded old.coded taken

-- keys counted, and keys behind them that wait to be
pub record CounterState : Type 0 where
  pub entries : Entries
  pub waiting : List Key

-- keys were taken: those that waited and then these are counted, up to those that wait now
pub record TakesLater (old : CounterState) (taken : List Key) (new : CounterState) : Type 0 where
  pub counted : List Key
  pub takes : Takes old.entries new.entries counted
  pub order : old.waiting ++ taken ≡ counted ++ new.waiting
