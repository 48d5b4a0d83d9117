-- Columns, as they are parsed.
use Rattle.std.specs.Prelude.{ℕ, ◌&&◌, nat_le, Bool, if◌then◌else◌, List, Option, Some, None}
use Rattle.std.specs.Str.Parse.{digits_value}
use Rattle.command_line.specs.Columns.{GivesColumn, IsBadColumn}
use Rattle.command_line.specs.declared.options.Column.{Column}
use Rattle.command_line.specs.declared.options.TheConstants.{LAST_COLUMN}

-- the number that digits denote, if a column has it
abbrev pub column_number : List ℕ → Option ℕ
column_number digits =
    if nat_le 1 (digits_value 10 digits) && nat_le (digits_value 10 digits) LAST_COLUMN
    then Some (digits_value 10 digits)
    else None

-- the column of a text, or `None` where it gives none
abbrev pub IsParsedColumn : Bool → List ℕ → Option Column → Type 0
IsParsedColumn header text None = IsBadColumn header (Some text)
IsParsedColumn header text (Some column) = GivesColumn header text column
