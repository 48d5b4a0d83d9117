use Rattle.group_machine.specs.State.{members}
use Rattle.keycount_c.proofs.Filling.{IsFilling}
use Rattle.keycount_c.proofs.lists.put_members.Given as goal

abbrev pub invariant-loop-member : goal.invariant-loop-member
invariant-loop-member l = IsFilling (members l.cluster.group) l.member-iterator l.count l.out l.fn.out
