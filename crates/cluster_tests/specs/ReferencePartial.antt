-- The map that the plain program counts a list of key numbers in.
use Rattle.std.specs.Prelude.{◌≡◌, ℕ, zero, suc, List, Option, Some, None}
use Rattle.std.specs.BTreeMap.{BTreeMap, IsOrdered, get}
use Rattle.std.specs.Map.{update_all}
use Rattle.std.specs.Ordering.{eq_by_cmp, nat_cmp}
use Rattle.keyed_table.specs.Counts.{plain}

-- a count as a map keeps it: nothing for a number that is not there
abbrev pub counted : ℕ → Option ℕ
counted zero = None
counted (suc n) = Some (suc n)

-- what pairs of a number and a count say of a number: the last pair that has it decides
abbrev pub value_in : List (ℕ × ℕ) → ℕ → Option ℕ
value_in pairs x = update_all (eq_by_cmp nat_cmp) (λ y. None) pairs x

-- a map has the plain counts of a list, and nothing else
abbrev pub HasCountsOf : List ℕ → BTreeMap ℕ ℕ → Type 0
HasCountsOf ids counts = (x : ℕ) → get nat_cmp counts x ≡ counted (plain ids x)

-- the same, of a map whose numbers rise
abbrev pub IsValidPlainPartial : List ℕ → BTreeMap ℕ ℕ → Type 0
IsValidPlainPartial ids counts = HasCountsOf ids counts × IsOrdered nat_cmp counts
