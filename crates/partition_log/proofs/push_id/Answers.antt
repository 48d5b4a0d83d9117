use Rattle.std.proofs.Common.{rules}
use Rattle.partition_log.proofs.push_id.Goals as goal

pub returns-then-count-ge-MOST_RECORDS-clause-answer : goal.returns-then-count-ge-MOST_RECORDS-clause-answer
returns-then-count-ge-MOST_RECORDS-clause-answer c = search rules

pub add-requires-clause-absent : goal.add-requires-clause-absent
add-requires-clause-absent c = search rules

pub add-requires-clause-capacity : goal.add-requires-clause-capacity
add-requires-clause-capacity c = search rules

pub returns-clause-answer : goal.returns-clause-answer
returns-clause-answer c = search rules

pub returns-then-offset-clause-answer : goal.returns-then-offset-clause-answer
returns-then-offset-clause-answer c = search rules

pub returns-in-Some-clause-answer : goal.returns-in-Some-clause-answer
returns-in-Some-clause-answer c = search rules

pub returns-in-Some-clause-log : goal.returns-in-Some-clause-log
returns-in-Some-clause-log c = search rules
