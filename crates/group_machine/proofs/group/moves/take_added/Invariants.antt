use Rattle.group_machine.proofs.TakenLemmas.{AreTaken}
use Rattle.group_machine.proofs.group.moves.take_added.Given as goal

abbrev pub invariant-loop-q : goal.invariant-loop-q
invariant-loop-q l = AreTaken l.member l.added l.fn.takers l.takers l.q-iterator
