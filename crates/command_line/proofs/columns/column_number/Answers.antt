use Rattle.std.proofs.Common.{◌≡◌, ℕ, rules}
use Rattle.std.specs.Str.Parse.{digits_value}
use Rattle.command_line.proofs.ColumnTexts.{number_read, number_unread}
use Rattle.command_line.proofs.columns.column_number.Goals as goal

pub returns-in_default : goal.returns-in_default
returns-in_default c = number_unread _ c.args.digits.now c.in_default.field-0 c.requires c.in_default.ensures.value.0

pub returns : goal.returns
returns c =
    let is : c.in-Ok.number ≡ digits_value 10 c.args.digits.now = number_read ℕ c.args.digits.now c.in-Ok.number c.requires c.in-Ok.ensures.value.0 in
    rw (← is) (search rules)
