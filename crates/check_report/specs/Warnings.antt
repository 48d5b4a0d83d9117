-- What may be wrong with a file that can be read.
use Rattle.std.specs.Prelude.{ℕ, ◌+◌, ◌==◌, ◌&&◌, ◌||◌, not, Bool, false, if◌then◌else◌, List, [], ◌∷◌, ◌++◌, Option, Some, None, codes, drop, fold}
use Rattle.std.specs.List.{list_any, starts_with}
use Rattle.std.specs.Option.{option_map, option_to_list}
use Rattle.csv_ingest.specs.KeyFile.{Record}
use Rattle.csv_ingest.specs.Pieces.{bom_length}
use Rattle.csv_ingest.specs.Stand.{in_quotes, is_line_end, stand_after, stand_next}
use Rattle.csv_ingest.specs.declared.stand.Stand.{Stand}
use Rattle.csv_ingest.specs.declared.stand.Stand.TheVariants as k
use Rattle.check_report.specs.Findings.{Finding}
use Rattle.check_report.specs.Places.{line_at, places}
use Rattle.check_report.specs.RecordFindings.{found_at, placed}
use Rattle.check_report.specs.declared.places.Place.{Place}

-- a warning about no record
abbrev pub warning : Option ℕ → List ℕ → Finding
warning byte words = record {
  in_script = false;
  code = None;
  nth = None;
  line = option_map (λ b. 1) byte;
  byte = byte;
  words = words;
}

-- ---- no records, or none that is CSV
-- there is no record
abbrev pub none_words : List ℕ → List (Place × Record) → Option (List ℕ)
none_words [] records = Some (codes "the file is empty")
none_words (c ∷ rest) [] = Some (codes "the file has no record")
none_words (c ∷ rest) (first ∷ records) = None

-- whether a file begins with these bytes
abbrev pub begins_with : List ℕ → List ℕ → Bool
begins_with file mark = starts_with (λ a b. a == b) file mark

-- the mark of a format other than CSV at the start of a file: of gzip, of Zstandard, or of UTF-16
-- with either order of bytes
abbrev pub format_words : List ℕ → Option (List ℕ)
format_words file =
    if begins_with file (0x1F ∷ 0x8B ∷ []) then Some (codes "the file begins like a gzip file")
    else if begins_with file (0x28 ∷ 0xB5 ∷ 0x2F ∷ 0xFD ∷ [])
    then Some (codes "the file begins like a zstd file")
    else if begins_with file (0xFF ∷ 0xFE ∷ []) || begins_with file (0xFE ∷ 0xFF ∷ [])
    then Some (codes "the file begins like UTF-16 text")
    else None

-- ---- the first record
-- a byte of this value is in a field
abbrev pub has_byte : ℕ → List ℕ → Bool
has_byte byte field = list_any (λ b. b == byte) field

-- a record of one field that has what may be another delimiter in it
abbrev pub delimiter_words : Record → Option (List ℕ)
delimiter_words (field ∷ []) =
    if has_byte 9 field
    then Some (codes "one field with a tab in it: is the delimiter a tab?")
    else if has_byte 59 field
    then Some (codes "one field with a semicolon in it: is the delimiter a semicolon?")
    else None
delimiter_words fields = None

-- the warning about the first record
abbrev pub delimiter_warnings : List (Place × Record) → List Finding
delimiter_warnings [] = []
delimiter_warnings (first ∷ rest) =
    option_to_list (option_map (found_at None first.0) (delimiter_words first.1))

-- ---- quotes that are never closed
-- whether a byte ends the field that a reader is in: a delimiter or a line's end that no quotes
-- protect
abbrev pub ends_field : ℕ → Stand → ℕ → Bool
ends_field delimiter stand c = not (in_quotes stand) && ((c == delimiter) || is_line_end c)

-- the first byte of the field in which a text ends that goes on from byte `byte` so, where a field
-- began at byte `start`
unfoldable pub last_field_from : ℕ → Stand → ℕ → ℕ → List ℕ → ℕ
last_field_from delimiter stand start byte [] = start
last_field_from delimiter stand start byte (c ∷ rest) =
    last_field_from delimiter (stand_next delimiter stand c)
    (if ends_field delimiter stand c then byte + 1 else start) (byte + 1) rest

-- a file behind its byte order mark
abbrev pub unmarked : List ℕ → List ℕ
unmarked file = drop (bom_length file) file

-- the first byte of a file's last field
abbrev pub last_field : ℕ → List ℕ → ℕ
last_field delimiter file =
    last_field_from delimiter k.Record (bom_length file) (bom_length file) (unmarked file)

-- the number of the last record; 0 if there is none
abbrev pub last_number : List Place → ℕ
last_number places = fold (λ last place. place.nth) 0 places

-- the quote that opens a file's last field, if none closes it
abbrev pub quote_warnings : ℕ → List ℕ → List Finding
quote_warnings delimiter file =
    if in_quotes (stand_after delimiter k.Record (unmarked file))
    then found_at None
    (record {
      nth = last_number (places delimiter file);
      line = line_at file (last_field delimiter file);
      byte = last_field delimiter file;
    })
    (codes "the quotes that open here are never closed") ∷ []
    else []

-- the warnings about the whole file and its first record
abbrev pub first_warnings : ℕ → List ℕ → List Finding
first_warnings delimiter file =
    option_to_list (option_map (warning None) (none_words file (placed delimiter file)))
    ++ option_to_list (option_map (warning (Some 0)) (format_words file))
    ++ delimiter_warnings (placed delimiter file)

-- all warnings
unfoldable pub warnings_of : ℕ → List ℕ → List Finding
warnings_of delimiter file = first_warnings delimiter file ++ quote_warnings delimiter file
