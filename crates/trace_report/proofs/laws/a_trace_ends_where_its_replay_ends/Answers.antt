use Rattle.trace_report.proofs.Tellings.{tells}
use Rattle.trace_report.proofs.laws.a_trace_ends_where_its_replay_ends.Goals as goal

pub returns : goal.returns
returns c = tells
