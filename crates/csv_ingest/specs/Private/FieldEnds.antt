-- The ends of fields that are known.
use Rattle.std.specs.Prelude.{◌≡◌, ◌⊎◌, ◌≤◌, ◌+◌, ℕ, List, length}
use Rattle.csv_ingest.specs.Private.ByteSearch.{HasMarks}
use Rattle.csv_ingest.specs.declared.field_ends.FieldEnds.{FieldEnds}

-- none is known, or it is known which of 64 bytes of the text end a field without quotes
abbrev pub AreEnds : ℕ → List ℕ → FieldEnds → Type 0
AreEnds delimiter text ends = (ends.marks ≡ 0)
    ⊎ ((ends.from + 64 ≤ length text)
    × HasMarks 64 delimiter 13 10 text ends.from ends.marks)
