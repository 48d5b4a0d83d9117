-- Joins among the changes of a plan.
use Rattle.std.specs.Prelude.{Bool, true, false}
use Rattle.script.specs.declared.plan.Change.{Change}
use Rattle.script.specs.declared.plan.Change.TheVariants.{Join, Leave, Lose}

abbrev pub is_join : Change → Bool
is_join (Join name) = true
is_join (Leave name) = false
is_join (Lose name) = false
