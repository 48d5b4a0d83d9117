-- The value of `--column` and of `--topic-column`: the number of a column, or its name in the
-- header.
use Rattle.std.specs.Prelude.{◌≡◌, ℕ, ◌&&◌, nat_le, Bool, true, false, List, length, Option, Some, None}
use Rattle.std.specs.Char.{is_ascii_digit}
use Rattle.std.specs.List.{list_all}
use Rattle.std.specs.Str.Parse.{digits_value}
use Rattle.command_line.specs.declared.options.Column.{Column}
use Rattle.command_line.specs.declared.options.Column.TheVariants.{Number, Named}
use Rattle.command_line.specs.Options.{IsColumnIn}

-- one or more digits
abbrev pub is_numeral : List ℕ → Bool
is_numeral text = nat_le 1 (length text) && list_all is_ascii_digit text

-- the text gives this column: digits its number, and any other text its name
abbrev pub IsWrittenAs : List ℕ → Column → Type 0
IsWrittenAs text (Number n) = (is_numeral text ≡ true) × (digits_value 10 text ≡ n)
IsWrittenAs text (Named name) = (is_numeral text ≡ false) × (name.items ≡ text)

-- the text gives this column, which a file can have, with a header or without
abbrev pub GivesColumn : Bool → List ℕ → Column → Type 0
GivesColumn header text column = IsWrittenAs text column × IsColumnIn header column

-- the column of an option with this value; without it the default
abbrev pub IsColumnOf : Bool → Option (List ℕ) → ℕ → Column → Type 0
IsColumnOf header None default column = column ≡ Number default
IsColumnOf header (Some text) default column = GivesColumn header text column

-- the option has a value, and it gives no column
abbrev pub IsBadColumn : Bool → Option (List ℕ) → Type 0
IsBadColumn header None = ⊥
IsBadColumn header (Some text) = (column : Column) → GivesColumn header text column → ⊥
