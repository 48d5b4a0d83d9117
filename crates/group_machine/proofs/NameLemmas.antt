-- Numbers by their names.
use Rattle.std.proofs.Common.{ℕ, ◌≡◌, ◌+◌, ◌<◌, ◌≤◌, List, [], ◌∷◌, Option, Some, None, drop, refl, ◌∙◌}
use Rattle.std.specs.Option.{option_or}
use Rattle.group_machine.specs.declared.group.Slot.{Slot}
use Rattle.group_machine.specs.State.{number_from}

or_none : (o : Option ℕ) → o ≡ option_or o None
or_none None = refl
or_none (Some n) = refl

-- the number by the walk so far, which has found this one
abbrev pub found_by : List Slot → List ℕ → ℕ → Option ℕ → Option ℕ
found_by slots name i found = option_or (number_from (i + 1) (drop i slots) name) found
