use Rattle.std.proofs.Common.{rules}
use Rattle.keycount_c.proofs.member.calls.reply_of.Goals as goal

pub returns-then-answer-eq0 : goal.returns-then-answer-eq0
returns-then-answer-eq0 c = search rules

pub returns-then-answer-eq1 : goal.returns-then-answer-eq1
returns-then-answer-eq1 c = search rules

pub returns-then-answer-eq11 : goal.returns-then-answer-eq11
returns-then-answer-eq11 c = search rules

pub returns-else-answer-eq11 : goal.returns-else-answer-eq11
returns-else-answer-eq11 c = search rules
