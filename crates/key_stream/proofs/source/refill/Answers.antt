use Rattle.std.proofs.Common.{rules}
use Rattle.key_stream.proofs.source.refill.Goals as goal

pub returns-then-at_end-clause-window : goal.returns-then-at_end-clause-window
returns-then-at_end-clause-window g c = search rules

pub returns-then-at_end-clause-no_failures : goal.returns-then-at_end-clause-no_failures
returns-then-at_end-clause-no_failures g c = search rules

pub returns-then-at_end-clause-failures : goal.returns-then-at_end-clause-failures
returns-then-at_end-clause-failures g c = search rules

pub returns-else-at_end-clause-window : goal.returns-else-at_end-clause-window
returns-else-at_end-clause-window g c = search rules

pub returns-else-at_end-clause-no_failures : goal.returns-else-at_end-clause-no_failures
returns-else-at_end-clause-no_failures g c = search rules

pub returns-else-at_end-clause-failures : goal.returns-else-at_end-clause-failures
returns-else-at_end-clause-failures g c = search rules
