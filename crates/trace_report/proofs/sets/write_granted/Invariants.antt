use Rattle.std.proofs.Common.{◌≡◌, ◌++◌, map}
use Rattle.group_machine.specs.State.{members}
use Rattle.trace_report.specs.Sets.{each_after, granted_entry}
use Rattle.trace_report.specs.declared.texts.TheConstants.{SEMICOLON}
use Rattle.trace_report.proofs.sets.write_granted.Given as goal

abbrev pub invariant-loop-member : goal.invariant-loop-member
invariant-loop-member l = l.text.items ++ each_after SEMICOLON (map (granted_entry l.topics l.world) l.member-iterator) ≡ each_after SEMICOLON (map (granted_entry l.topics l.world) (members l.world.cluster.group))
