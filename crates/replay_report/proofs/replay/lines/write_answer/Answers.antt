use Rattle.replay_report.proofs.replay.lines.write_answer.Goals as goal

pub returns-in-Err : goal.returns-in-Err
returns-in-Err c = rw c.in-Err.is c.write_refused.ensures
