-- How contracts see a `Planned`.
use Rattle.workers.specs.Progress.{IsValidProgress, Progress}
use Rattle.workers.specs.declared.planned.Planned.TheInside.{Inside}

abbrev pub planned_view : Inside → Progress
planned_view a = record { cluster = a.cluster; plan = a.plan; applied = a.applied }

abbrev pub IsValidPlanned : Inside → Type 0
IsValidPlanned a = IsValidProgress (planned_view a)
