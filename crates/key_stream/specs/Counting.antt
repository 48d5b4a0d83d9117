-- What was counted of a file so far.
use Rattle.std.specs.Prelude.{◌≡◌, ℕ, Bool, true, false, List, [], ◌++◌, count_by, take, drop, length, map, Err, Option, vec_len}
use Rattle.std.specs.Str.{bytes_eq}
use Rattle.std.specs.Io.KnownBytes.{IsAtEnd}
use Rattle.lane_words.specs.declared.Refusal.{Refusal}
use Rattle.csv_ingest.specs.KeyFile.{Taking, taken_of}
use Rattle.csv_ingest.specs.Rounds.{IsSplitPoint}
use Rattle.key_index.specs.Keys.{Key, distinct}
use Rattle.key_counts.specs.Counts.{Entries}
use Rattle.key_counts.specs.Recorded.{AreRecorded}
use Rattle.key_counts.specs.Rounds.{AreSegmented, HaveTaken}
use Rattle.key_counts.specs.Segments.{keys_of}
use Rattle.key_counts.specs.declared.merging.Segment.{Segment}
use Rattle.key_stream.specs.Reading.{Fills}
use Rattle.key_stream.specs.Rounds.{IsRead, entries_in}
use Rattle.key_stream.specs.declared.counting.Counting.{Counting}
use Rattle.key_stream.specs.declared.round.Round.{Round}

-- these bytes of a file were read and had no fault; workers with these entries took their records,
-- which have these keys, the segments have the entries, and the chunks the records
pub record IsCountedBy (delimiter : ℕ) (wanted : Taking) (header : Bool) (read : List ℕ)
    (round : Round) (workers : List Entries) (segments : List Segment) (marks : List ℕ)
    (coded : Bool) (chunks : List Segment) (ends : List ℕ) : Type 0 where
  pub keys : List (List ℕ)
  pub so : IsRead delimiter wanted header read round keys
  pub taken : HaveTaken keys (keys_of workers segments) workers
  pub parts : AreSegmented workers segments marks
  pub recorded : AreRecorded keys coded workers chunks ends

-- the same of workers with these entries, and all else that was counted
abbrev pub IsCountedOf : ℕ → Taking → Bool → List ℕ → List Entries → Counting → Type 0
IsCountedOf delimiter wanted header read workers counting =
    IsCountedBy delimiter wanted header read counting.round workers counting.segments.items
    counting.marks.items counting.coded counting.chunks.items counting.ends.items

-- the same of its own workers
abbrev pub IsCounted : ℕ → Taking → Bool → List ℕ → Counting → Type 0
IsCounted delimiter wanted header read counting =
    IsCountedOf delimiter wanted header read (entries_in counting.workers.items) counting

-- each worker has a mark and an end
abbrev pub HasMarks : Counting → Type 0
HasMarks counting =
    (vec_len counting.marks ≡ vec_len counting.workers)
    × (vec_len counting.ends ≡ vec_len counting.workers)

-- the first n bytes of a text were taken: whatever was read before it, up to a split point, and
-- whatever comes behind it, if it is not the end
abbrev pub TakesFirst : ℕ → Taking → Bool → Bool → List ℕ → ℕ → Counting → Counting → Type 0
TakesFirst delimiter wanted header at_end text n old new =
    (read more : List ℕ) → IsSplitPoint delimiter read (text ++ more) → (at_end ≡ true → more ≡ [])
    → IsCounted delimiter wanted header read old
    → IsCounted delimiter wanted header (read ++ take n text) new
    × IsSplitPoint delimiter (read ++ take n text) (drop n text ++ more)

-- a text has the first fault of its file: whatever was read before it and comes behind it
abbrev pub HasFaultIn : ℕ → Taking → Bool → Bool → List ℕ → Counting → Refusal → Type 0
HasFaultIn delimiter wanted header at_end text old fault =
    (read more : List ℕ) → IsSplitPoint delimiter read (text ++ more) → (at_end ≡ true → more ≡ [])
    → IsCounted delimiter wanted header read old
    → taken_of delimiter wanted header (read ++ (text ++ more)) ≡ Err fault

-- a window was filled up from its source, unless that was at its end
abbrev pub Refills : Bool → Bool → Option (List ℕ) → Option (List ℕ) → List ℕ → List ℕ → Type 0
Refills true end left left2 window window2 = (end ≡ true) × (left2 ≡ left) × (window2 ≡ window)
Refills false end left left2 window window2 =
    Fills left left2 window window2 × (end ≡ true → IsAtEnd left2)

-- the first n bytes of a window were counted, and the next window has the others; or there are none
-- and nothing follows
pub record CountsWindow (delimiter : ℕ) (wanted : Taking) (header at_end done : Bool)
    (old new : Counting) (window window2 : List ℕ) : Type 0 where
  pub n : ℕ
  pub taken : TakesFirst delimiter wanted header at_end window n old new
  pub rest : window2 ≡ drop n window
  pub all : done ≡ true → (at_end ≡ true) × (n ≡ length window)

-- how often each key occurs, in the order of first appearance
abbrev pub occurrences : List Key → List ℕ
occurrences keys = map (λ key. count_by (bytes_eq key) keys) (distinct keys)
