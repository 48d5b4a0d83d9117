-- The group's answer to a line of a plan, and when a run is finished.
use Rattle.std.specs.Prelude.{◌≡◌, true, Result, Ok, length}
use Rattle.std.specs.Result.{result_and}
use Rattle.lane_words.specs.declared.Refusal.{Refusal}
use Rattle.group_machine.specs.State.{GroupState}
use Rattle.group_machine.specs.Steps.{join_answer, leave_answer}
use Rattle.script.specs.declared.plan.Change.{Change}
use Rattle.script.specs.declared.plan.Change.TheVariants.{Join, Leave, Lose}
use Rattle.group_machine.specs.Settled.{is_settled}
use Rattle.commit_store.specs.Commits.{AreEndsCommitted}
use Rattle.workers.specs.Plans.{number_of}
use Rattle.workers.specs.Progress.{Progress}

-- the group's answer to a line
abbrev pub change_answer : GroupState → Change → Result (Unit {0}) Refusal
change_answer g (Join name) = result_and (join_answer g name) (Ok tt)
change_answer g (Leave name) = leave_answer g (number_of g name)
change_answer g (Lose name) = leave_answer g (number_of g name)

-- each line is applied, the group is settled, and each log is committed to its end
pub record IsFinished (s : Progress) : Type 0 where
  pub all : s.applied ≡ length s.plan
  pub settled : is_settled s.cluster.group ≡ true
  pub ends : AreEndsCommitted s.cluster.store s.cluster.logs
