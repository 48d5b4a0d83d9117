use Rattle.std.proofs.Common.{rules}
use Rattle.keycount_c.proofs.cluster.readers.number_of_phase.Goals as goal

pub returns-in-Empty : goal.returns-in-Empty
returns-in-Empty c = search rules

pub returns-in-Preparing : goal.returns-in-Preparing
returns-in-Preparing c = search rules

pub returns-in-Stable : goal.returns-in-Stable
returns-in-Stable c = search rules
