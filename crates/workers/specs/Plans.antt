-- The result of a plan: each line is applied after the rebalance of the one before has ended.
use Rattle.std.specs.Prelude.{ℕ, List, [], ◌∷◌}
use Rattle.std.specs.Option.{unwrap_or}
use Rattle.group_machine.specs.State.{GroupState, member_named, opening}
use Rattle.group_laws.specs.Rounds.{rebalance_result}
use Rattle.group_machine.specs.Steps.{joined_by, left_by}
use Rattle.script.specs.declared.plan.Change.{Change}
use Rattle.script.specs.declared.plan.Change.TheVariants.{Join, Leave, Lose}

-- the newest member of a name; 0, which no member has, if there is none
abbrev pub number_of : GroupState → List ℕ → ℕ
number_of g name = unwrap_or (member_named g name) 0

-- the group right after a line, before the rebalance that follows
abbrev pub changed_by : GroupState → Change → GroupState
changed_by g (Join name) = joined_by g name
changed_by g (Leave name) = left_by g (number_of g name)
changed_by g (Lose name) = left_by g (number_of g name)

-- the group after each line and its rebalance
abbrev pub settled_from : GroupState → List Change → GroupState
settled_from g [] = g
settled_from g (change ∷ rest) = settled_from (rebalance_result (changed_by g change)) rest

-- the result of a plan, from a group that nobody has joined
abbrev pub settled : ℕ → List Change → GroupState
settled partitions plan = settled_from (opening partitions) plan
