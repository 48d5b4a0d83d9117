-- What a worker does in a turn.
use Rattle.std.specs.Prelude.{◌≡◌, ◌⊎◌, ℕ, if◌then◌else◌, is_some}
use Rattle.group_machine.specs.NextSteps.{next_step}
use Rattle.group_machine.specs.State.{GroupState, is_present, name_of}
use Rattle.workers.specs.declared.planned.Task.{Task}
use Rattle.workers.specs.declared.planned.Task.TheVariants.{End, Step, Wait}

-- the task of a member's worker in a run that has not ended
abbrev pub task_of : GroupState → ℕ → Task
task_of g member =
    if is_present g member then Step (next_step g member)
    else if is_some (name_of g member) then End
    else Wait

-- the same in any run: in one that has ended it is to end
abbrev pub IsTaskOf : GroupState → ℕ → Task → Type 0
IsTaskOf g member task = (task ≡ task_of g member) ⊎ (task ≡ End)
