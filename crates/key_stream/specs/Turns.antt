-- The chunks that workers take in a round, in their turns.
use Rattle.std.specs.Prelude.{◌≡◌, ◌<◌, ℕ, Bool, List, [], ◌∷◌, length, Option, None, slice_index_or}
use Rattle.csv_ingest.specs.KeyFile.{Taking}
use Rattle.key_counts.specs.Counts.{Entries}
use Rattle.key_stream.specs.Chunks.{TakesChunk}
use Rattle.key_stream.specs.declared.worker.Turn.{Turn}
use Rattle.key_stream.specs.declared.worker.Worker.{Worker}

-- a worker took the chunk of a turn, before which the first record was this long, if it was read;
-- the turn tells how many entries and records with a code it has then
abbrev pub TakesTurn : ℕ → Taking → Bool → List (Option ℕ) → List (List ℕ) → Entries → Turn
    → Entries → Type 0
TakesTurn delimiter wanted header widths chunks old turn new =
    TakesChunk delimiter wanted header (slice_index_or widths turn.chunk None)
    (slice_index_or chunks turn.chunk []) old new turn.found
    × (turn.entries ≡ length new.keys) × (turn.records ≡ length new.codes)

-- turns, one after another, of which each does so to the entries
abbrev pub InTurn : (Entries → Turn → Entries → Type 0) → Entries → List Turn → Entries → Type 0
InTurn Takes old [] new = old ≡ new
InTurn Takes old (turn ∷ turns) new =
    (mid : Entries) × Takes old turn mid × InTurn Takes mid turns new

-- in its turns a worker took chunks, from these entries on
abbrev pub HasWorked : ℕ → Taking → Bool → List (Option ℕ) → List (List ℕ) → Entries → Worker
    → Type 0
HasWorked delimiter wanted header widths chunks start worker =
    InTurn (TakesTurn delimiter wanted header widths chunks) start worker.turns.items
    worker.counter.entries

-- the same of each of several workers
abbrev pub HaveWorked : ℕ → Taking → Bool → List (Option ℕ) → List (List ℕ) → List Entries
    → List Worker → Type 0
HaveWorked delimiter wanted header widths chunks starts workers =
    (i : ℕ) (d : Worker) (none : Entries) → i < length workers
    → HasWorked delimiter wanted header widths chunks (slice_index_or starts i none)
    (slice_index_or workers i d)
