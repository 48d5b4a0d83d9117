-- A record that is read field by field.
use Rattle.std.specs.Prelude.{◌≡◌, ◌<◌, ◌≤◌, ◌+◌, ◌⊎◌, ◌++◌, ◌∷◌, [], ℕ, Bool, List, Some, drop, get_or, length, if◌then◌else◌}
use Rattle.csv.specs.Records.{field_at}
use Rattle.csv.specs.declared.parser.State.{State}
use Rattle.csv.specs.declared.parser.State.TheVariants as st
use Rattle.csv_ingest.specs.KeyFile.{Record}
use Rattle.csv_ingest.specs.Private.Walk.{walk}
use Rattle.csv_ingest.specs.declared.scan.Place.{Place}
use Rattle.csv_ingest.specs.declared.scan.Place.TheVariants as place
use Rattle.csv_ingest.specs.declared.scan.Row.{Row}

-- a byte that ends a line
abbrev pub IsLineEnd : ℕ → Type 0
IsLineEnd c = (c ≡ 10) ⊎ (c ≡ 13)

-- from a place on a field in this state has these bytes more, and there it ends: at a delimiter, at
-- the end of a line or of the text
pub record EndsField (delimiter : ℕ) (s : State) (text : List ℕ) (at end : ℕ) (more : List ℕ)
    : Type 0 where
  pub order : at ≤ end
  pub within : end ≤ length text
  pub ended : end < length text → (get_or text end 0 ≡ delimiter) ⊎ IsLineEnd (get_or text end 0)
  pub walked : (fields : Record) (field : List ℕ)
      → walk delimiter s fields field (drop at text)
      ≡ walk delimiter st.InField fields (field ++ more) (drop end text)

-- the bytes that were kept, and these of a field behind them, where they are wanted
abbrev pub kept : Bool → List ℕ → List ℕ → List ℕ
kept wanted old more = if wanted then old ++ more else old

-- a field was read from a place on to its end, and its bytes are kept where they are wanted
pub record ReadsField (delimiter : ℕ) (s : State) (text : List ℕ) (at end : ℕ) (wanted : Bool)
    (old new : List ℕ) : Type 0 where
  pub more : List ℕ
  pub ends : EndsField delimiter s text at end more
  pub keeps : new ≡ kept wanted old more

-- the bytes of a key that is in a place
abbrev pub bytes_in : Place → List ℕ → List ℕ
bytes_in (place.Text key) buffer = key.now
bytes_in place.Buffer buffer = buffer

-- the bytes of the key of the record at hand, as far as they were read
abbrev pub key_of : Row → List ℕ
key_of row = bytes_in row.place row.buffer.items

-- these fields of the record at hand are complete, and the key is that of this column, counted from
-- 0, as soon as its field is
pub record IsRow (column : ℕ) (row : Row) (fields : Record) : Type 0 where
  pub count : row.count ≡ length fields
  pub key : column < row.count → field_at fields column ≡ Some (key_of row)
  pub before : row.count ≤ column → key_of row ≡ []

-- these are all fields of a record, the one at hand included
pub record IsWhole (column : ℕ) (row : Row) (fields : Record) : Type 0 where
  pub count : row.count + 1 ≡ length fields
  pub key : column < row.count + 1 → field_at fields column ≡ Some (key_of row)
  pub before : row.count < column → key_of row ≡ []

-- the field at hand was read to its end, and it is the key where it is wanted
pub record ReadsKey (delimiter : ℕ) (text : List ℕ) (at end : ℕ) (wanted : Bool) (old new : Row)
    : Type 0 where
  pub field : List ℕ
  pub ends : EndsField delimiter st.StartField text at end field
  pub key : key_of new ≡ (if wanted then field else key_of old)

-- the field at hand was read to its end
pub record ReadsRow (delimiter : ℕ) (text : List ℕ) (at end column : ℕ) (old new : Row)
    : Type 0 where
  pub field : List ℕ
  pub ends : EndsField delimiter st.StartField text at end field
  pub whole : (fields : Record) → IsRow column old fields
      → IsWhole column new (fields ++ field ∷ [])
