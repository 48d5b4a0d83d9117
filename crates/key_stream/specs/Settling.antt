-- What was counted, when the turn of a chunk is settled.
use Rattle.std.specs.Prelude.{◌≡◌, ◌⊎◌, ◌≤◌, ◌<◌, ◌+◌, ◌==◌, ℕ, Bool, List, [], ◌∷◌, ◌++◌, if◌then◌else◌, length, take, Option, Some, None, Ok, Err, slice_index_or, slice_set}
use Rattle.lane_words.specs.declared.Refusal.{Refusal}
use Rattle.lane_words.specs.declared.Refusal.TheVariants as r
use Rattle.csv_ingest.specs.KeyFile.{Taking, taken_of}
use Rattle.csv_ingest.specs.Pieces.{ArePieces, later_fault}
use Rattle.csv_ingest.specs.Private.Pieces.{bytes_of, without_key}
use Rattle.csv_ingest.specs.Rounds.{IsSplitPoint, width_after_all}
use Rattle.key_counts.specs.Counts.{Entries}
use Rattle.key_counts.specs.declared.merging.Segment.{Segment}
use Rattle.key_stream.specs.Counting.{IsCounted, IsCountedOf}
use Rattle.key_stream.specs.Turns.{HaveWorked}
use Rattle.key_stream.specs.declared.counting.Counting.{Counting}
use Rattle.key_stream.specs.declared.worker.Turn.{Turn}
use Rattle.key_stream.specs.declared.worker.Worker.{Worker}

-- the number of records before a chunk, by how long the first record is, if it was read, and by the
-- number of keys: a header has none
abbrev pub records_before : Option ℕ → Bool → ℕ → ℕ
records_before None header keys = 0
records_before (Some width) header keys = without_key header + keys

-- segments, and one more of this worker, if it is not empty
abbrev pub with_segment : List Segment → ℕ → ℕ → ℕ → List Segment
with_segment segments worker from to =
    if from == to then segments
    else segments ++ (record { worker = worker; from = from; to = to }) ∷ []

-- the turn of this worker is settled: its keys are counted, and its new entries and records stand
-- behind those of the chunks before; then the first record is so long, if it was read
pub record SettlesTurn (worker : ℕ) (turn : Turn) (width : Option ℕ) (old new : Counting) : Type 0
  where
    pub number : ℕ
    pub found : turn.found ≡ Ok number
    pub keys : new.round.keys ≡ old.round.keys + number
    pub width_is : new.round.width ≡ width
    pub segments : new.segments.items ≡ with_segment old.segments.items worker
        (slice_index_or old.marks.items worker 0) turn.entries
    pub marks : new.marks.items ≡ slice_set old.marks.items worker turn.entries
    pub chunks : new.chunks.items ≡ with_segment old.chunks.items worker
        (slice_index_or old.ends.items worker 0) turn.records
    pub ends : new.ends.items ≡ slice_set old.ends.items worker turn.records

-- the turn found this fault, before whose chunk the first record was so long, if it was read
pub record HasTurnFault (turn : Turn) (width : Option ℕ) (header : Bool) (old : Counting)
    (e : Refusal) : Type 0 where
  pub fault : Refusal
  pub found : turn.found ≡ Err fault
  pub counted : e ≡ later_fault (records_before width header old.round.keys) fault

-- the next turn of worker w, behind those of its turns that are settled, has this chunk
pub record IsNextTurn (workers : List Worker) (settled : List ℕ) (index w : ℕ) (turn : Turn) : Type 0
  where
    pub worker : w < length workers
    pub place : w < length settled
    pub within : (d : Worker) → slice_index_or settled w 0
        < length (slice_index_or workers w d).turns.items
    pub at : (d : Worker) (t : Turn)
        → slice_index_or (slice_index_or workers w d).turns.items (slice_index_or settled w 0) t ≡ turn
    pub chunk : turn.chunk ≡ index

-- so many turns of each worker are all that it has
abbrev pub AreSettled : List Worker → List ℕ → Type 0
AreSettled workers settled =
    (w : ℕ) (d : Worker) → w < length workers
    → length (slice_index_or workers w d).turns.items ≤ slice_index_or settled w 0

-- the chunks are the first of a text's pieces, and the widths those before them and behind the last
pub record AreChunksOf (delimiter : ℕ) (width : Option ℕ) (widths : List (Option ℕ))
    (chunks pieces : List (List ℕ)) : Type 0 where
  pub few : length chunks ≤ length pieces
  pub first : chunks ≡ take (length chunks) pieces
  pub widths_are : (i : ℕ) → i ≤ length chunks
      → slice_index_or widths i None ≡ width_after_all delimiter width (take i pieces)

-- the turns in which workers took these chunks, from whatever entries on, are settled: if they are
-- the first pieces of a text, these are counted
unfoldable pub Settles : ℕ → Taking → Bool → List (Option ℕ) → List (List ℕ) → Counting → Counting
    → Type 0
Settles delimiter wanted header widths chunks old new =
    (starts : List Entries) (pieces : List (List ℕ)) (read text : List ℕ)
    → length starts ≡ length old.workers.items
    → HaveWorked delimiter wanted header widths chunks starts old.workers.items
    → AreChunksOf delimiter old.round.width widths chunks pieces
    → ArePieces delimiter text pieces → IsSplitPoint delimiter read text
    → IsCountedOf delimiter wanted header read starts old
    → IsCounted delimiter wanted header (read ++ bytes_of (take (length chunks) pieces)) new

-- one of the turns found a fault: memory was refused, or it is the fault of the file
unfoldable pub Fails : ℕ → Taking → Bool → List (Option ℕ) → List (List ℕ) → Counting → Refusal
    → Type 0
Fails delimiter wanted header widths chunks old fault =
    (starts : List Entries) → length starts ≡ length old.workers.items
    → HaveWorked delimiter wanted header widths chunks starts old.workers.items
    → (fault ≡ r.Memory) ⊎ ((pieces : List (List ℕ)) (read text more : List ℕ)
    → AreChunksOf delimiter old.round.width widths chunks pieces
    → ArePieces delimiter text pieces → IsSplitPoint delimiter read (text ++ more)
    → (length chunks < length pieces) ⊎ (more ≡ [])
    → IsCountedOf delimiter wanted header read starts old
    → taken_of delimiter wanted header (read ++ (text ++ more)) ≡ Err fault)
