-- What workers do with the chunks of a file that has a layout.
use Rattle.std.specs.Prelude.{◌≡◌, ◌≤◌, ◌<◌, ℕ, List, length, Option, None, slice_index_or, take}
use Rattle.std.specs.Borrow.{Bor}
use Rattle.lane_words.specs.declared.Refusal.{Refusal}
use Rattle.csv_ingest.specs.Private.Pieces.{lent}
use Rattle.csv_ingest.specs.Private.Wanted.{taking}
use Rattle.csv_ingest.specs.Rounds.{width_after_all}
use Rattle.key_counts.specs.Counts.{Entries}
use Rattle.key_stream.specs.Settling.{Fails, Settles}
use Rattle.key_stream.specs.Splits.{HasSplitFault, TakesSplit}
use Rattle.key_stream.specs.Turns.{HasWorked, HaveWorked}
use Rattle.key_stream.specs.declared.counting.Counting.{Counting}
use Rattle.key_stream.specs.declared.counting.Split.{Split}
use Rattle.key_stream.specs.declared.worker.Chunks.{Chunks}
use Rattle.key_stream.specs.declared.worker.Layout.{Layout}
use Rattle.key_stream.specs.declared.worker.Worker.{Worker}

-- how long the first record of the file is, if it was read: before each of these chunks, and behind
-- the last
abbrev pub HasWidths : ℕ → Option ℕ → List (Bor (List ℕ)) → List (Option ℕ) → Type 0
HasWidths delimiter width chunks widths =
    (i : ℕ) → i ≤ length chunks
    → slice_index_or widths i None ≡ width_after_all delimiter width (take i (lent chunks))

-- a worker took more chunks, whatever entries its first turn had
unfoldable pub WorksBy : Layout → Chunks → Worker → Worker → Type 0
WorksBy layout chunks old new =
    (start : Entries)
    → HasWorked layout.delimiter (taking layout.wanted.now) layout.header chunks.widths.now
    (lent chunks.texts.now) start old
    → HasWorked layout.delimiter (taking layout.wanted.now) layout.header chunks.widths.now
    (lent chunks.texts.now) start new

-- each of these workers did
unfoldable pub WorkBy : Layout → Chunks → List Worker → List Worker → Type 0
WorkBy layout chunks olds news =
    (i : ℕ) (d : Worker) → i < length olds
    → WorksBy layout chunks (slice_index_or olds i d) (slice_index_or news i d)

-- from these entries on each of these workers took chunks in its turns
abbrev pub HaveWorkedBy : Layout → Chunks → List Entries → List Worker → Type 0
HaveWorkedBy layout chunks starts workers =
    HaveWorked layout.delimiter (taking layout.wanted.now) layout.header chunks.widths.now
    (lent chunks.texts.now) starts workers

-- the turns in which workers took chunks are settled
abbrev pub SettlesBy : Layout → Chunks → Counting → Counting → Type 0
SettlesBy layout chunks old new =
    Settles layout.delimiter (taking layout.wanted.now) layout.header chunks.widths.now
    (lent chunks.texts.now) old new

-- one of them found this fault
abbrev pub FailsBy : Layout → Chunks → Counting → Refusal → Type 0
FailsBy layout chunks old fault =
    Fails layout.delimiter (taking layout.wanted.now) layout.header chunks.widths.now
    (lent chunks.texts.now) old fault

-- a split text was taken
abbrev pub TakesSplitBy : Layout → Split → Counting → Counting → Type 0
TakesSplitBy layout split old new =
    TakesSplit layout.delimiter (taking layout.wanted.now) layout.header split old new

abbrev pub HasFaultInSplit : Layout → Split → Counting → Refusal → Type 0
HasFaultInSplit layout split old fault =
    HasSplitFault layout.delimiter (taking layout.wanted.now) layout.header split old fault
