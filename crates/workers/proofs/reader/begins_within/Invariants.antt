use Rattle.workers.proofs.Read.{HaveBegun}
use Rattle.workers.proofs.reader.begins_within.Given as goal

abbrev pub invariant-loop-p : goal.invariant-loop-p
invariant-loop-p l = HaveBegun l.lease l.logs l.p-iterator
