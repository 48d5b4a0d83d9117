-- Where a reader of csv's default dialect, with some delimiter, stands between two bytes, in as few
-- states as tell where a file can be cut.
use Rattle.std.specs.Prelude.{◌≡◌, ℕ, Bool, true, false, ◌==◌, ◌||◌, if◌then◌else◌, List, [], ◌∷◌}
use Rattle.csv_ingest.specs.declared.stand.Stand.{Stand}
use Rattle.csv_ingest.specs.declared.stand.Stand.TheVariants as k

-- whether a byte is one of those that end a line
abbrev pub is_line_end : ℕ → Bool
is_line_end c = (c == 13) || (c == 10)

-- after a byte that quotes do not protect, and that is no quote that opens or closes
abbrev pub unquoted : ℕ → ℕ → Stand
unquoted delimiter c =
    if c == delimiter then k.Fresh else if is_line_end c then k.Record else k.Bare

-- after a byte at the start of a field
abbrev pub field_begun : ℕ → ℕ → Stand
field_begun delimiter c = if c == 34 then k.Quoted else unquoted delimiter c

-- where a reader stands after one byte more
abbrev pub stand_next : ℕ → Stand → ℕ → Stand
stand_next delimiter k.Record c =
    if is_line_end c then k.Record else field_begun delimiter c
stand_next delimiter k.Fresh c = field_begun delimiter c
stand_next delimiter k.Bare c = unquoted delimiter c
stand_next delimiter k.Quoted c = if c == 34 then k.Fresh else k.Quoted

-- where it stands after these bytes
unfoldable pub stand_after : ℕ → Stand → List ℕ → Stand
stand_after delimiter s [] = s
stand_after delimiter s (c ∷ rest) = stand_after delimiter (stand_next delimiter s c) rest

-- whether quotes protect the next byte
abbrev pub in_quotes : Stand → Bool
in_quotes k.Record = false
in_quotes k.Fresh = false
in_quotes k.Bare = false
in_quotes k.Quoted = true

-- where a reader stands here before these bytes, a line feed behind them ends a record
abbrev pub EndsRecord : ℕ → Stand → List ℕ → Type 0
EndsRecord delimiter s bytes =
    stand_next delimiter (stand_after delimiter s bytes) 10 ≡ k.Record

-- a file that begins with these bytes can be cut behind them, before a line feed
abbrev pub IsCut : ℕ → List ℕ → Type 0
IsCut delimiter bytes = EndsRecord delimiter k.Record bytes
