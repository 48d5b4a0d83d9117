-- The text of what was counted.
use Rattle.std.specs.Prelude.{◌≡◌, ◌++◌, ℕ, Bool, List, ◌∷◌, None, Ok, Option, Vec, drop, flat_map, if◌then◌else◌, map, slice_index, vec_items}
use Rattle.std.specs.Global.{Global}
use Rattle.command_line.specs.declared.options.Options.{Options}
use Rattle.ingest.specs.Counted.{CountsFile}
use Rattle.ingest.specs.Records.{names_topics}
use Rattle.key_stream.specs.Tally.{HaveCounted}
use Rattle.key_stream.specs.declared.counting.Counting.{Counting}
use Rattle.key_stream.specs.declared.tally.Counters.{Counters}
use Rattle.count_report.specs.CountReport.{report_of_count}
use Rattle.key_index.specs.Keys.{Key, distinct}
use Rattle.key_stream.specs.Counting.{occurrences}
use Rattle.key_counts.specs.Merging.{Parted, part_at}
use Rattle.report_rows.specs.CountRows.{count_rows, listed_rows, rows_between}
use Rattle.report_rows.specs.Rows.{total_row}

-- how many bytes stand before each key: with topics the index of its topic
abbrev pub skipped : Bool → ℕ
skipped has_topics = if has_topics then 1 else 0

-- keys as they were read, without what stands before them
abbrev pub keys_read : Bool → List Key → List Key
keys_read has_topics keys = map (drop (skipped has_topics)) keys

-- the rows of keys, and the number of records as both totals
abbrev pub text_of : Option ℕ → List Key → ℕ → List ℕ
text_of top keys records =
    listed_rows top (distinct keys) (occurrences keys) ++ total_row records records

-- the rows of the keys of a part
abbrev pub IsTextOfPart : Parted → ℕ → Vec ℕ Global → Type 0
IsTextOfPart m i text =
    text.items ≡ count_rows (part_at m.ends i m.keys) (part_at m.ends i m.counts)

-- the texts of the parts from one on, below another
abbrev pub AreTextsOfParts : Parted → ℕ → ℕ → Vec (Vec ℕ Global) Global → Type 0
AreTextsOfParts m from to texts =
    flat_map vec_items texts.items
    ≡ rows_between m.keys m.counts (slice_index (0 ∷ m.ends) from) (slice_index (0 ∷ m.ends) to)

-- texts are those of whatever keys counters have counted
abbrev pub TellsCounters : Options → Counters → ℕ → Vec (Vec ℕ Global) Global → Type 0
TellsCounters options counters records texts =
    (keys : List Key) → HaveCounted keys counters
    → flat_map vec_items texts.items
    ≡ text_of options.top (keys_read (names_topics options) keys) records

-- texts are the report of the file that was counted
abbrev pub ReportsCounted : Options → Counting → Vec (Vec ℕ Global) Global → Type 0
ReportsCounted options counting texts =
    (left left2 : Option (List ℕ)) (file : CountsFile options left left2 counting None)
    → report_of_count options file.read ≡ Ok (flat_map vec_items texts.items)
