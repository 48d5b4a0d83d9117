-- A file that is counted within the limits of its logs, window by window.
use Rattle.std.specs.Prelude.{◌≡◌, ◌≤◌, ◌<◌, ◌+◌, ⊤, ℕ, Bool, true, List, [], ◌++◌, length, take, IfOk, IfSome, Option, Some, None, Result, Ok, Err}
use Rattle.std.specs.Io.KnownBytes.{Consumes, IsAtEnd}
use Rattle.std.specs.Result.{result_map_both}
use Rattle.command_line.specs.declared.options.Options.{Options}
use Rattle.lane_words.specs.declared.Memory.{Memory}
use Rattle.lane_words.specs.declared.Refusal.{Refusal}
use Rattle.lane_words.specs.declared.Refusal.TheVariants as r
use Rattle.lane_words.specs.declared.limits.TheConstants.{MOST_RECORDS}
use Rattle.csv_ingest.specs.KeyFile.{Record, Taking, taken_of}
use Rattle.csv_ingest.specs.Private.Wanted.{taking}
use Rattle.csv_ingest.specs.Rounds.{IsSplitPoint, chunk_keys}
use Rattle.key_counts.specs.Counts.{Entries}
use Rattle.key_counts.specs.Rounds.{HaveTaken}
use Rattle.key_counts.specs.Segments.{keys_of}
use Rattle.key_counts.specs.declared.merging.Segment.{Segment}
use Rattle.key_stream.specs.Counting.{CountsWindow, HasFaultIn, IsCounted, Refills}
use Rattle.key_stream.specs.Rounds.{entries_in}
use Rattle.key_stream.specs.declared.counting.Counting.{Counting}
use Rattle.key_stream.specs.declared.worker.Layout.{Layout}
use Rattle.partition_log.specs.Keys.{Key, distinct, keys_in}
use Rattle.ingest.specs.Limits.{ChecksKeys, IsLimitCheck, Limits, record_taken, records_taken}
use Rattle.ingest.specs.Private.Columns.{MayFollow}
use Rattle.ingest.specs.RecordFaults.{first_fault}
use Rattle.ingest.specs.Records.{AreOfTopics, names_topics, partition_counts, records_among}
use Rattle.ingest.specs.declared.columns.Columns.{Columns}
use Rattle.ingest.specs.declared.counted.CountPlan.{CountPlan}
use Rattle.ingest.specs.declared.windows.Windows.{Windows}

-- ---- what is taken of a record
-- whatever is taken of a record is of one of the topics that have these numbers of partitions
abbrev pub TakesTopics : Taking → List ℕ → Bool → Type 0
TakesTopics wanted counts has_topics =
    (fields : Record) (key : Key) → wanted fields ≡ Ok key
    → (record_taken has_topics key).0 < length counts

-- what is taken of any file are its records, with the key in this column, and with topics the topic
-- in that one
abbrev pub TakesColumns : Options → ℕ → ℕ → Taking → Type 0
TakesColumns options column topic_column wanted =
    (file : List ℕ)
    → records_among options.delimiter options.header options.topics.items file column topic_column
    ≡ result_map_both (records_taken (names_topics options)) (λ fault. fault)
    (taken_of options.delimiter wanted options.header file)

-- ---- the limits
-- these keys are few enough for a table
abbrev pub AreFewKeys : Bool → List Key → Type 0
AreFewKeys has_topics keys =
    length (distinct (keys_in (records_taken has_topics keys))) < MOST_RECORDS

-- the limits after the records of these keys: too few to fill a log, or a check that goes on, as
-- long as a table has room for their keys
abbrev pub AreWithin : List ℕ → Bool → List Key → Option Limits → Type 0
AreWithin counts has_topics keys None = length keys ≤ MOST_RECORDS
AreWithin counts has_topics keys (Some check) =
    AreFewKeys has_topics keys
    → IsLimitCheck counts has_topics (records_taken has_topics keys) check

-- without a check, no log can be full after so many more records
abbrev pub HasRoom : ℕ → ℕ → Option Limits → Type 0
HasRoom total more None = total + more ≤ MOST_RECORDS
HasRoom total more (Some check) = ⊤

-- a check begins after `total` records, if with `more` of them a log could be full
abbrev pub BeginsCheck : List ℕ → Bool → List Entries → ℕ → ℕ → Option Limits → Option Limits
    → Type 0
BeginsCheck counts has_topics workers total more old new =
    (keys order : List Key) → HaveTaken keys order workers → total ≡ length keys
    → AreWithin counts has_topics keys old
    → AreWithin counts has_topics keys new × HasRoom total more new

-- a check, if there is one, goes on with the keys that were to be found
abbrev pub ChecksFound : Result (List Key) Refusal → Option Limits → Option Limits → Type 0
ChecksFound found None new = new ≡ None
ChecksFound found (Some old) new =
    (check : Limits) × (keys : List Key) × (new ≡ Some check) × (found ≡ Ok keys)
    × ChecksKeys old keys check

-- the first bytes of a window were counted, and a check goes on with their keys
pub record ChecksWindow (delimiter : ℕ) (wanted : Taking) (header at_end done : Bool)
    (old new : Counting) (window window2 : List ℕ) (check check2 : Option Limits) : Type 0 where
  pub counts : CountsWindow delimiter wanted header at_end done old new window window2
  pub checks : ChecksFound
      (chunk_keys delimiter wanted header old.round.width (take counts.n window)) check check2

-- the same, and the next window was filled behind what was left
pub record ChecksRound (delimiter : ℕ) (wanted : Taking) (header at_end end done : Bool)
    (left left2 : Option (List ℕ)) (old new : Counting) (window window2 : List ℕ)
    (check check2 : Option Limits) : Type 0 where
  pub rest : List ℕ
  pub checks : ChecksWindow delimiter wanted header at_end done old new window rest check check2
  pub reads : Refills at_end end left left2 rest window2

-- ---- a source that is counted
-- bytes of a file: those that a window had, and those that were read from its source since, which
-- may have been at its end before
pub record ReadsBehind (window : List ℕ) (at_end : Bool) (left left2 : Option (List ℕ))
    (bytes : List ℕ) : Type 0 where
  pub more : List ℕ
  pub whole : bytes ≡ window ++ more
  pub consumed : Consumes left left2 more
  pub follows : MayFollow at_end more

-- a source was read up to a window: these bytes were counted, and those in the window follow, as
-- `IsReading` has it; `first` were in the window at the start, when the source was at its end if
-- `first_end` says so. The limits are those after the counted records
pub record IsChecking (delimiter : ℕ) (wanted : Taking) (header : Bool) (counts : List ℕ)
    (has_topics at_end : Bool) (first : List ℕ) (first_end : Bool)
    (left left2 : Option (List ℕ)) (window : List ℕ) (counting : Counting)
    (check : Option Limits) : Type 0 where
  pub read : List ℕ
  pub bytes : ReadsBehind first first_end left left2 (read ++ window)
  pub ended : at_end ≡ true → IsAtEnd left2
  pub stays : first_end ≡ true → at_end ≡ true
  pub counted : IsCounted delimiter wanted header read counting
  pub split : (more : List ℕ) → MayFollow at_end more
      → IsSplitPoint delimiter read (window ++ more)
  pub within : AreWithin counts has_topics counted.keys check

-- a source was read to its end, its bytes were counted behind those of a window; and why the first
-- record that can't be appended can't
pub record CountsSource (delimiter : ℕ) (wanted : Taking) (header : Bool) (counts : List ℕ)
    (has_topics : Bool) (first : List ℕ) (first_end : Bool) (left left2 : Option (List ℕ))
    (counting : Counting) (refusal : Option Refusal) : Type 0 where
  pub read : List ℕ
  pub bytes : ReadsBehind first first_end left left2 read
  pub ended : IsAtEnd left2
  pub counted : IsCounted delimiter wanted header read counting
  pub topics : AreOfTopics counts (records_taken has_topics counted.keys)
  pub refused : first_fault counts [] (records_taken has_topics counted.keys) ≡ refusal

-- the fault of the first bad record of a source that follows these bytes, if its own are known
abbrev pub IsSourceFault : ℕ → Taking → Bool → List ℕ → Option (List ℕ) → Refusal → Type 0
IsSourceFault delimiter wanted header first left fault =
    IfSome left (λ rest. taken_of delimiter wanted header (first ++ rest) ≡ Err fault)

-- why a source is not counted to its end: an allocation or a read failed, or a record is bad
abbrev pub IsCountFault : Refusal → Type 0
IsCountFault r.Memory = ⊤
IsCountFault r.ReadFailed = ⊤
IsCountFault (r.NoSuchColumn nth) = ⊤
IsCountFault (r.BadCsv nth) = ⊤
IsCountFault (r.NoSuchTopic nth) = ⊤
IsCountFault _ = ⊥

-- ---- the same by a plan
-- the keys of a chunk
abbrev pub keys_in_chunk : Layout → Option ℕ → List ℕ → Result (List Key) Refusal
keys_in_chunk layout width chunk =
    chunk_keys layout.delimiter (taking layout.wanted.now) layout.header width chunk

abbrev pub ChecksRoundBy : Layout → Windows → Windows → Bool → Option (List ℕ)
    → Option (List ℕ) → Counting → Counting → Option Limits → Option Limits → Type 0
ChecksRoundBy layout windows windows2 done left left2 old new check check2 =
    ChecksRound layout.delimiter (taking layout.wanted.now) layout.header windows.at_end
    windows2.at_end done left left2 old new windows.window windows2.window check check2

abbrev pub HasFaultBy : Layout → Windows → Counting → Refusal → Type 0
HasFaultBy layout windows old fault =
    HasFaultIn layout.delimiter (taking layout.wanted.now) layout.header windows.at_end
    windows.window old fault

-- nothing is counted yet
abbrev pub StartsBy : CountPlan → Counting → Type 0
StartsBy plan counting =
    IsCounted plan.layout.delimiter (taking plan.layout.wanted.now) plan.layout.header [] counting

abbrev pub BeginsCheckBy : CountPlan → Counting → ℕ → Option Limits → Option Limits → Type 0
BeginsCheckBy plan counting more old new =
    BeginsCheck plan.counts.now plan.has_topics (entries_in counting.workers.items)
    counting.round.keys more old new

-- all bytes are counted
abbrev pub IsCheckedBy : CountPlan → Windows → Option (List ℕ) → Option (List ℕ) → Counting
    → Option Limits → Type 0
IsCheckedBy plan windows left left2 counting check =
    IsChecking plan.layout.delimiter (taking plan.layout.wanted.now) plan.layout.header
    plan.counts.now plan.has_topics true windows.window windows.at_end left left2 [] counting check

abbrev pub CountsSourceBy : CountPlan → Windows → Option (List ℕ) → Option (List ℕ) → Counting
    → Option Refusal → Type 0
CountsSourceBy plan windows left left2 counting refusal =
    CountsSource plan.layout.delimiter (taking plan.layout.wanted.now) plan.layout.header
    plan.counts.now plan.has_topics windows.window windows.at_end left left2 counting refusal

abbrev pub IsFaultOfSourceBy : CountPlan → Windows → Option (List ℕ) → Refusal → Type 0
IsFaultOfSourceBy plan windows left fault =
    IsSourceFault plan.layout.delimiter (taking plan.layout.wanted.now) plan.layout.header
    windows.window left fault

-- the same of a file whose columns are known
pub record CountsColumns (options : Options) (columns : Columns) (first : List ℕ)
    (first_end : Bool) (left left2 : Option (List ℕ)) (counting : Counting)
    (refusal : Option Refusal) : Type 0 where
  pub wanted : Taking
  pub takes : TakesColumns options columns.key columns.topic wanted
  pub counts : CountsSource options.delimiter wanted options.header (partition_counts options)
      (names_topics options) first first_end left left2 counting refusal

abbrev pub IsColumnsFault : Options → Columns → List ℕ → Option (List ℕ) → Refusal → Type 0
IsColumnsFault options columns first left fault =
    IfSome left (λ rest. records_among options.delimiter options.header options.topics.items
    (first ++ rest) columns.key columns.topic ≡ Err fault)

-- ---- at the end
-- the fault of the first record that can't be appended, of those that workers took
abbrev pub IsFirstFault : List ℕ → Bool → List Entries → List Segment → Option Limits
    → Option Refusal → Type 0
IsFirstFault counts has_topics workers segments check fault =
    (keys : List Key) → HaveTaken keys (keys_of workers segments) workers
    → AreWithin counts has_topics keys check → AreFewKeys has_topics keys
    → fault ≡ first_fault counts [] (records_taken has_topics keys)

-- once all records are counted: why the first that can't be appended can't, unless memory is refused
abbrev pub Concludes : List ℕ → Bool → List Entries → List Segment → Option Limits
    → Result (Option Refusal) Memory → Type 0
Concludes counts has_topics workers segments check result =
    (keys : List Key) → HaveTaken keys (keys_of workers segments) workers
    → AreWithin counts has_topics keys check
    → IfOk result
    (λ refusal. first_fault counts [] (records_taken has_topics keys) ≡ refusal)
