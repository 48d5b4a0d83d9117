use Rattle.std.proofs.Common.{rules}
use Rattle.commit_store.proofs.store.next_offset.Goals as goal

pub returns-then-from-committed-clause-answer : goal.returns-then-from-committed-clause-answer
returns-then-from-committed-clause-answer g c = search rules

pub returns-clause-answer : goal.returns-clause-answer
returns-clause-answer g c = search rules

pub returns-then-end-len-clause-answer : goal.returns-then-end-len-clause-answer
returns-then-end-len-clause-answer g c = search rules

pub returns-then-not-equal32-clause-answer : goal.returns-then-not-equal32-clause-answer
returns-then-not-equal32-clause-answer g c = search rules
