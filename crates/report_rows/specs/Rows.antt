-- Rows as text, and the writer that every report uses.
use Rattle.std.specs.Prelude.{◌≡◌, ◌++◌, ℕ, List, [], ◌∷◌, Some, true, false, Vec, codes, decimal}
use Rattle.std.specs.Global.{Global}
use Rattle.csv.specs.Writing.{default_writer, fields_written, has_written, row_text, text_written, with_flexible, writer_setup}
use Rattle.csv.specs.declared.writer.Writer.{Writer}
use Rattle.csv.specs.declared.writer.WriterBuilder.{WriterBuilder}

-- csv's default dialect with rows of any length: a field is quoted if it has to be (RFC 4180), and
-- a row ends with a line feed
abbrev pub row_writer : WriterBuilder
row_writer = with_flexible default_writer true

-- the row of the totals: the number of records committed, and of records appended
unfoldable pub total_row : ℕ → ℕ → List ℕ
total_row committed appended =
    row_text row_writer (codes "total" ∷ decimal committed ∷ decimal appended ∷ [])

-- an in-memory writer between two rows, with this text written so far
pub record HasText (w : Writer (Vec ℕ Global)) (text : List ℕ) : Type 0 where
  pub setup : writer_setup w ≡ row_writer
  pub begun : fields_written w ≡ 0
  pub clean : has_written w ≡ false
  pub shown : text_written (λ v. Some v.items) w ≡ Some text

-- the writer has written these rows after what it had written before
abbrev pub AddsRows : Writer (Vec ℕ Global) → Writer (Vec ℕ Global) → List ℕ → Type 0
AddsRows old new rows = (text : List ℕ) → HasText old text → HasText new (text ++ rows)
