use Rattle.std.proofs.Common.{arith}
use Rattle.keycount_c.proofs.Owning.{owned_set}
use Rattle.keycount_c.proofs.owners.row_in.Goals as goal

pub returns : goal.returns
returns c = owned_set c.args.owners.now c.args.member c.loop-q.q c.loop-q.row c.loop-q.invariant.over (omega (arith, c.loop-q-test.false)) c.loop-q.invariant.so_far
