use Rattle.std.proofs.Common.{rules}
use Rattle.lane_words.proofs.limits.limits_are.Goals as goal

pub returns-clause-group : goal.returns-clause-group
returns-clause-group c = search rules

pub returns-clause-records : goal.returns-clause-records
returns-clause-records c = search rules
