-- How often records were read.
use Rattle.std.specs.Prelude.{ℕ, zero, suc, ◌+◌, ◌-◌, ◌==◌, min, List, [], ◌∷◌, ◌++◌, count_by, fold, length, slice_index, slice_set, if◌then◌else◌}
use Rattle.lane_words.specs.Sums.{sum_below}
use Rattle.timeline.specs.declared.parts.Column.{Column}
use Rattle.timeline.specs.declared.parts.Mark.{Mark}
use Rattle.timeline.specs.declared.parts.Mark.TheVariants as mark
use Rattle.timeline.specs.declared.parts.Records.{Records}

-- a record is read once more; 2 says more than once
abbrev pub once_more : ℕ → ℕ
once_more times = min 2 (times + 1)

-- the record at an offset is read once more
abbrev pub read_at : List ℕ → ℕ → List ℕ
read_at times offset = slice_set times offset (once_more (slice_index times offset))

-- n records from an offset on are read once more
abbrev pub read_on : ℕ → ℕ → List ℕ → List ℕ
read_on zero from times = times
read_on (suc n) from times = read_at (read_on n from times) (from + n)

-- n more records, which were not read yet
abbrev pub lengthened : ℕ → List ℕ → List ℕ
lengthened zero times = times
lengthened (suc n) times = lengthened n times ++ 0 ∷ []

-- these records are read once more
abbrev pub with_records : Records → List ℕ → List ℕ
with_records records times =
    read_on (records.to - records.from) records.from
    (lengthened (records.to - length times) times)

abbrev pub with_mark : ℕ → List ℕ → Mark → List ℕ
with_mark p times (mark.Poll records) =
    if records.partition == p then with_records records times else times
with_mark p times other = times

-- how often each record of a partition was read, from offset 0 on
unfoldable pub times_read : ℕ → List Column → List ℕ
times_read p columns = fold (λ times column. with_mark p times column.mark) [] columns

-- how many records of a partition were read more than once
unfoldable pub read_again_of : List Column → ℕ → ℕ
read_again_of columns p = count_by (λ times. times == 2) (times_read p columns)

-- of all partitions
abbrev pub read_again : ℕ → List Column → ℕ
read_again partitions columns = sum_below partitions (read_again_of columns)
