use Rattle.std.proofs.Common.{◌≡◌, ◌++◌}
use Rattle.group_machine.specs.State.{members}
use Rattle.trace_report.specs.Cells.{waiting_text}
use Rattle.trace_report.proofs.cells.push_waiting.Given as goal

abbrev pub invariant-loop-member : goal.invariant-loop-member
invariant-loop-member l = l.text.items ++ waiting_text l.world l.member-iterator ≡ l.fn.text.items ++ waiting_text l.world (members l.world.cluster.group)
