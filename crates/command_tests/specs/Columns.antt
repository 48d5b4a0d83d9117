-- Columns by number.
use Rattle.std.specs.Prelude.{ℕ}
use Rattle.command_line.specs.declared.options.Column.{Column}
use Rattle.command_line.specs.declared.options.Column.TheVariants.{Number, Named}

-- the number of a column; 0 if it has a name
abbrev pub number_of : Column → ℕ
number_of (Number n) = n
number_of (Named name) = 0
