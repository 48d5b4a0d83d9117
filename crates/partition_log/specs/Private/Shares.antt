-- Records by codes: what each has is read from what the entry of its key has.
use Rattle.std.specs.Fork.{slice_chunk}
use Rattle.std.specs.Prelude.{◌≡◌, ◌<◌, ◌≤◌, ◌*◌, ℕ, List, [], All, Vec, flat_map, length, map, replicate, slice_index_or, slice_range, vec_items}
use Rattle.std.specs.Global.{Global}
use Rattle.key_counts.specs.Counts.{Entries}
use Rattle.key_counts.specs.Segments.{entries_of}
use Rattle.key_counts.specs.declared.merging.Segment.{Segment}
use Rattle.partition_log.specs.Private.Filled.{filled}
use Rattle.partition_log.specs.declared.taken.TakenRecords.{TakenRecords}
use Rattle.partition_log.specs.declared.shares.CodedChunk.{CodedChunk}
use Rattle.partition_log.specs.declared.shares.Tables.{Tables}

-- what the records of these codes have, from what the entries have
abbrev pub by_codes : List ℕ → List ℕ → List ℕ
by_codes own codes = map (λ code. slice_index_or own code 0) codes

-- what the entries of this worker have
abbrev pub table_of : List (Vec ℕ Global) → ℕ → List ℕ
table_of tables w = slice_index_or (map vec_items tables) w []

-- what the records of a chunk have
abbrev pub read_chunk : List (Vec ℕ Global) → List Entries → Segment → List ℕ
read_chunk tables workers s =
    by_codes (table_of tables s.worker)
    (slice_range (entries_of workers s.worker).codes s.from s.to)

-- what the records of these chunks have
abbrev pub read_chunks : List (Vec ℕ Global) → List Entries → List Segment → List ℕ
read_chunks tables workers chunks = flat_map (read_chunk tables workers) chunks

-- what the records of all chunks have
abbrev pub read_all : List (Vec ℕ Global) → TakenRecords → List ℕ
read_all tables taken = read_chunks tables taken.workers.now taken.chunks.now

-- there are tables for each of these workers
pub record HasTables (workers : List Entries) (tables : Tables) : Type 0 where
  pub places : length tables.places.items ≡ length workers
  pub numbers : length tables.numbers.items ≡ length workers

-- each entry of these workers has a partition, of so many, and a key number
pub record AreTables (partitions : ℕ) (workers : List Entries) (tables : Tables) : Type 0 where
  pub placed : (w : ℕ) → w < length workers
      → length (table_of tables.places.items w) ≡ length (entries_of workers w).keys
  pub numbered : (w : ℕ) → w < length workers
      → length (table_of tables.numbers.items w) ≡ length (entries_of workers w).keys
  pub below : (w : ℕ) → w < length workers
      → All (λ p. p < partitions) (table_of tables.places.items w)
  pub places_many : length tables.places.items ≡ length workers
  pub numbers_many : length tables.numbers.items ≡ length workers

-- the places of a chunk's records
abbrev pub places_in : CodedChunk → List ℕ
places_in chunk = by_codes chunk.places.now chunk.codes.now

-- their key numbers
abbrev pub numbers_in : CodedChunk → List ℕ
numbers_in chunk = by_codes chunk.numbers.now chunk.codes.now

-- each record of the chunk has a place among so many, and a number
pub record IsFillable (partitions : ℕ) (chunk : CodedChunk) : Type 0 where
  pub placed : All (λ code. code < length chunk.places.now) chunk.codes.now
  pub numbered : All (λ code. code < length chunk.numbers.now) chunk.codes.now
  pub below : All (λ p. p < partitions) chunk.places.now

-- the logs of the records of these chunks
abbrev pub filled_by : ℕ → List Entries → Tables → List Segment → List (List ℕ)
filled_by partitions workers tables chunks =
    filled (replicate partitions []) (read_chunks tables.places.items workers chunks)
    (read_chunks tables.numbers.items workers chunks)

-- the parts are the logs of all shares, of which each has so many chunks, the last what is left
pub record AreFilled (partitions : ℕ) (workers : List Entries) (tables : Tables) (size : ℕ)
    (chunks : List Segment) (parts : List (List (List ℕ))) : Type 0 where
  pub all : length chunks ≤ length parts * size
  pub each : (i : ℕ) → i < length parts
      → slice_index_or parts i [] ≡ filled_by partitions workers tables (slice_chunk chunks size i)

-- lists, one after another
abbrev pub flattened : List (List ℕ) → List ℕ
flattened lists = flat_map (λ xs. xs) lists

-- of each partition the logs of all parts, one part after another
pub record AreMerged (partitions : ℕ) (parts : List (List (List ℕ))) (logs : List (List ℕ))
    : Type 0 where
  pub as_many : length logs ≡ partitions
  pub each : (p : ℕ) → p < partitions
      → slice_index_or logs p [] ≡ flattened (map (λ part. slice_index_or part p []) parts)
