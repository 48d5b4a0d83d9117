use Rattle.world_laws.proofs.CountedOnce.{counted_once, never_counted}
use Rattle.world_laws.proofs.laws.each_record_is_counted_once.Goals as goal

pub returns-clause-once : goal.returns-clause-once
returns-clause-once c = counted_once

pub returns-clause-never : goal.returns-clause-never
returns-clause-never c = never_counted
