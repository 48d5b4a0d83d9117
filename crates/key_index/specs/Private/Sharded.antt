-- Keys interned shard by shard, and their key numbers.
use Rattle.std.specs.Prelude.{◌≡◌, ◌<◌, ◌≤◌, ◌+◌, ◌*◌, ◌/◌, ◌==◌, ◌%◌, ◌^◌, ℕ, List, [], ◌∷◌, ◌++◌, All, Bool, Vec, filter, fold, length, map, min, if◌then◌else◌, slice_index_or, slice_set, take, vec_items, vec_len}
use Rattle.lane_words.specs.declared.limits.TheConstants.{MOST_RECORDS}
use Rattle.std.specs.Borrow.{Bor}
use Rattle.std.specs.Global.{Global}
use Rattle.key_index.specs.Keys.{Key, distinct, id_of, key_at, lent, lent_lists, with_key}
use Rattle.key_index.specs.Private.KeyHash.{hash_of}
use Rattle.key_index.specs.declared.key_hash.KeyHash.{KeyHash}
use Rattle.key_index.specs.declared.scattering.TheConstants.{SLICES}
use Rattle.key_index.specs.declared.scattering.Scattered.{Scattered}
use Rattle.key_index.specs.declared.shards.TheConstants.{SHARDS}
use Rattle.key_index.specs.declared.shards.KeyLocation.{KeyLocation}
use Rattle.key_index.specs.declared.interning.InternedShard.{InternedShard}
use Rattle.key_index.specs.declared.interning.ShardedRecords.{ShardedRecords}

-- the shard of a key, from some bits of its hash
unfoldable pub shard_of : KeyHash → Key → ℕ
shard_of hasher key = hash_of hasher key / 2 ^ 19 % SHARDS

-- the keys of shard s, in order; a function gives the shard of each key
abbrev pub of_shard : (Key → ℕ) → ℕ → List Key → List Key
of_shard shard s keys = filter (λ k. shard k == s) keys

-- the index at which slice p of these begins: all slices have one length, but for the last ones
abbrev pub start_of : ℕ → List Key → ℕ
start_of p keys = min (p * (length keys / SLICES + 1)) (length keys)

-- the keys of each shard, in order
abbrev pub rows_in : Scattered → List (List Key)
rows_in scattered = map vec_items scattered.rows.items

-- the rows of count shards: each has its shard's keys, in order
pub record AreRows (shard : Key → ℕ) (count : ℕ) (keys : List Key) (rows : List (List Key))
    : Type 0 where
  pub each : length rows ≡ count
  pub are : (s : ℕ) → s < count → slice_index_or rows s [] ≡ of_shard shard s keys

-- these keys, scattered to their shards
pub record IsScattered (shard : Key → ℕ) (keys : List Key) (scattered : Scattered) : Type 0 where
  pub shards : scattered.shards.items ≡ map shard keys
  pub rows : AreRows shard SHARDS keys (rows_in scattered)

-- the keys of each list, scattered to their shards
pub record AreScattered (shard : Key → ℕ) (lists : List (Bor (List (Bor Key))))
    (scattered : List Scattered) : Type 0 where
  pub as_many : length scattered ≡ length lists
  pub are : (i : ℕ) (d : Scattered) (e : Bor (List (Bor Key))) → i < length lists
      → IsScattered shard (lent (slice_index_or lists i e).now) (slice_index_or scattered i d)

-- the keys of a shard after more records
abbrev pub with_keys : List Key → List Key → List Key
with_keys table row = fold with_key table row

-- for each shard the key numbers of its keys, by their numbers in the shard
abbrev pub AreGlobal : (Key → ℕ) → List Key → List (List ℕ) → Type 0
AreGlobal shard keys ids = (s : ℕ) → s < length ids → slice_index_or ids s []
    ≡ map (id_of (distinct keys)) (distinct (of_shard shard s keys))

-- whether a record is the first of its key
abbrev pub is_first : List ℕ → ℕ → Bool
is_first ids local_id = local_id == length ids

-- the key numbers of a shard after one more record
abbrev pub with_first : List ℕ → ℕ → ℕ → List ℕ
with_first ids local_id next = if is_first ids local_id then ids ++ next ∷ [] else ids

-- the key numbers of all shards after one more record of shard s
abbrev pub ids_after : List (List ℕ) → ℕ → ℕ → ℕ → List (List ℕ)
ids_after ids s local_id next =
    slice_set ids s (with_first (slice_index_or ids s []) local_id next)

-- the locations of the keys after one more record of shard s
abbrev pub order_after : List KeyLocation → List (List ℕ) → ℕ → ℕ → List KeyLocation
order_after order ids s local_id =
    if is_first (slice_index_or ids s []) local_id
    then order ++ (record { shard = s; number = local_id }) ∷ []
    else order

-- the next key number after one more record
abbrev pub next_after : List ℕ → ℕ → ℕ → ℕ
next_after ids local_id next = if is_first ids local_id then next + 1 else next

-- the keys of shard s, and the numbers there of its records
abbrev pub IsInternedShard : (Key → ℕ) → List Key → ℕ → InternedShard → Type 0
IsInternedShard shard keys s found =
    (found.table ≡ distinct (of_shard shard s keys))
    × (found.local_ids.items
    ≡ map (id_of (distinct (of_shard shard s keys))) (of_shard shard s keys))

-- so many shards, interned
abbrev pub AreInterned : (Key → ℕ) → List Key → ℕ → List InternedShard → Type 0
AreInterned shard keys count shards =
    (s : ℕ) (d : InternedShard) → s < count
    → IsInternedShard shard keys s (slice_index_or shards s d)

-- the keys of each of count shards
pub record AreTables (shard : Key → ℕ) (count : ℕ) (keys : List Key) (tables : List (List Key))
    : Type 0 where
  pub each : length tables ≡ count
  pub are : (s : ℕ) → s < count → slice_index_or tables s [] ≡ distinct (of_shard shard s keys)

-- the numbers in each of count shards of its records
pub record AreLocalIds (shard : Key → ℕ) (count : ℕ) (keys : List Key) (local_ids : List (List ℕ))
    : Type 0 where
  pub each : length local_ids ≡ count
  pub are : (s : ℕ) → s < count → slice_index_or local_ids s []
      ≡ map (id_of (distinct (of_shard shard s keys))) (of_shard shard s keys)

-- the key at a location
abbrev pub key_at_location : List (List Key) → KeyLocation → Key
key_at_location tables at = key_at (slice_index_or tables at.shard []) at.number

-- the keys of records, one list after another
abbrev pub keys_in : ShardedRecords → List Key
keys_in records = lent_lists records.lists.now

-- the shard of each key
abbrev pub shard_by : ShardedRecords → Key → ℕ
shard_by records = shard_of records.hasher

-- the numbers in each shard of its records
abbrev pub local_ids_in : ShardedRecords → List (List ℕ)
local_ids_in records = map vec_items records.local_ids.now

-- the number of records of each shard among the first i records
pub record AreSeenCounts (shard : Key → ℕ) (count : ℕ) (keys : List Key) (i : ℕ) (seen : List ℕ)
    : Type 0 where
  pub each : length seen ≡ count
  pub seen_counts : (s : ℕ) → s < count → slice_index_or seen s 0
      ≡ length (of_shard shard s (take i keys))

-- the key numbers of the records can be read from the numbers in their shards
pub record AreReadable (shard : Key → ℕ) (keys : List Key) (shards : List ℕ)
    (local_ids ids : List (List ℕ)) : Type 0 where
  pub sharded : shards ≡ map shard keys
  pub numbered : AreLocalIds shard SHARDS keys local_ids
  pub each : length ids ≡ SHARDS
  pub are : AreGlobal shard keys ids

-- the key numbers of these records can be read from those of the shards
abbrev pub HaveReadableIds : ShardedRecords → List (List ℕ) → Type 0
HaveReadableIds records ids =
    AreReadable (shard_by records) (keys_in records) records.shards.now (local_ids_in records) ids

-- count numbers are those that f gives for the keys from an index on
abbrev pub AreFrom : (Key → ℕ) → List Key → ℕ → ℕ → List ℕ → Type 0
AreFrom f keys from count numbers =
    (k d : ℕ) → k < count → slice_index_or numbers k d ≡ f (key_at keys (from + k))

-- the location of each of these keys, if those of a shard are numbered by their records
pub record AreOrdered (shard : Key → ℕ) (all keys : List Key) (count : ℕ) (order : List KeyLocation)
    : Type 0 where
  pub named :
      map (λ (at : KeyLocation). key_at (distinct (of_shard shard at.shard all)) at.number) order
      ≡ keys
  pub there : All (λ (at : KeyLocation). (at.shard < count)
      × (at.number < length (distinct (of_shard shard at.shard all)))) order

-- key numbers can be assigned to records that are interned in their shards
abbrev pub AreAssignable : (Key → ℕ) → List Key → List ℕ → List (List ℕ) → List (List Key)
    → Type 0
AreAssignable shard keys shards local_ids tables =
    (length keys ≤ MOST_RECORDS) × (shards ≡ map shard keys) × (length tables ≡ SHARDS)
    × AreLocalIds shard SHARDS keys local_ids

-- the key numbers of each shard, and the location of each key
abbrev pub IsAssignment : (Key → ℕ) → List Key
    → Vec (Vec ℕ Global) Global × Vec KeyLocation Global → Type 0
IsAssignment shard keys assigned =
    (vec_len assigned.0 ≡ SHARDS) × AreGlobal shard keys (map vec_items assigned.0.items)
    × AreOrdered shard keys (distinct keys) SHARDS assigned.1.items

-- there is a key at a location
abbrev pub IsLocated : List (List Key) → KeyLocation → Type 0
IsLocated tables at =
    (at.shard < length tables) × (at.number < length (slice_index_or tables at.shard []))

-- the invariant of a sharded map: each shard has the keys that belong to it, in order, and their
-- key numbers
pub record AreShards (shard : Key → ℕ) (keys : List Key) (tables : List (List Key))
    (ids : List (List ℕ)) (order : List KeyLocation) : Type 0 where
  pub few : length order ≤ MOST_RECORDS
  pub a_table_each : 0 < length order → length tables ≡ SHARDS
  pub ids_each : 0 < length order → length ids ≡ SHARDS
  pub keys_of : (s : ℕ) → s < length tables → slice_index_or tables s [] ≡ of_shard shard s keys
  pub ids_of : (s : ℕ) → s < length ids → slice_index_or ids s []
      ≡ map (id_of keys) (of_shard shard s keys)
  pub there : All (IsLocated tables) order
