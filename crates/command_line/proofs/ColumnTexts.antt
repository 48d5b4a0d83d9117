-- The columns of values.
use Rattle.std.proofs.Common.{◌≡◌, ◌≤◌, ◌&&◌, ℕ, Bool, true, false, cond, List, Option, Some, None, Ok, Err, length, refl, subst, sym, arith, rules, true≢false}
use Rattle.std.specs.Prelude.{nat_le}
use Rattle.std.specs.Char.{is_ascii_digit}
use Rattle.std.specs.List.{list_all}
use Rattle.std.specs.Str.Parse.{ParsesUnsigned, digits_value}
use Rattle.std.proofs.lemmas.Bool.{leb-true}
use Rattle.std.proofs.lemmas.Str.Parse.{IsNumeralModel, numerals_by_value, parse_digits}
use Rattle.command_line.specs.declared.options.Column.{Column}
use Rattle.command_line.specs.declared.options.TheConstants.{LAST_COLUMN}
use Rattle.command_line.specs.Columns.{IsColumnOf, is_numeral}
use Rattle.command_line.specs.Options.{IsColumnIn}
use Rattle.command_line.specs.Private.Columns.{column_number}

-- the column of an option can be read
pub column_in : (header : Bool) (value : Option (List ℕ)) (default : ℕ) (column : Column) → (1 ≤ default) × (default ≤ 65535) → IsColumnOf header value default column → IsColumnIn header column
column_in header None default column fits is = subst (IsColumnIn header) (sym is) fits
column_in header (Some text) default column fits is = is.1

both_are : (a b : Bool) → a && b ≡ true → (a ≡ true) × (b ≡ true)
both_are true b e = (refl, e)
both_are false b e = absurd (true≢false (sym e))

-- ---- numbers
digits_model : IsNumeralModel (λ word. list_all is_ascii_digit word ≡ true) (digits_value 10)
digits_model = numerals_by_value _ (search rules)

pub number_read : (E : Type 0) (text : List ℕ) (n : ℕ) → is_numeral text ≡ true → ParsesUnsigned {E = E} 32 10 text (Ok n) → n ≡ digits_value 10 text
number_read E text n numeral parses = (parse_digits digits_model {E = E} 32 text (Ok n) parses (both_are (nat_le 1 (length text)) (list_all is_ascii_digit text) numeral).1).1

pub number_unread : (E : Type 0) (text : List ℕ) (e : E) → is_numeral text ≡ true → ParsesUnsigned {E = E} 32 10 text (Err e) → None ≡ column_number text
number_unread E text e numeral parses = sym (go (nat_le 1 (digits_value 10 text) && nat_le (digits_value 10 text) LAST_COLUMN) refl)
  where
    parts : (nat_le 1 (length text) ≡ true) × (list_all is_ascii_digit text ≡ true)
    parts = both_are (nat_le 1 (length text)) (list_all is_ascii_digit text) numeral

    go : (b : Bool) → (nat_le 1 (digits_value 10 text) && nat_le (digits_value 10 text) LAST_COLUMN) ≡ b → cond b (Some (digits_value 10 text)) None ≡ None
    go false fits = refl
    go true fits =
        let few : digits_value 10 text ≤ 65535 = leb-true (digits_value 10 text) LAST_COLUMN (both_are (nat_le 1 (digits_value 10 text)) (nat_le (digits_value 10 text) LAST_COLUMN) fits).1 in
        let some : 1 ≤ length text = leb-true _ _ parts.0 in
        absurd (parse_digits digits_model {E = E} 32 text (Err e) parses parts.1 (omega (arith, some), omega (arith, few)))
