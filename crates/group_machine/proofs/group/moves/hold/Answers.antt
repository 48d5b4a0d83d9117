use Rattle.std.proofs.Common.{None, length, slice_index_or, arith}
use Rattle.std.proofs.lemmas.List.FromFn.{fill_by_all}
use Rattle.std.specs.Option.{option_or}
use Rattle.group_machine.proofs.group.moves.hold.Goals as goal

pub returns : goal.returns
returns c =
    fill_by_all (λ q. option_or (slice_index_or c.args.takers.now q None) (slice_index_or c.args.last.now q None)) c.loop-partition.last (length c.args.last.now) None c.loop-partition.invariant.long
    (λ k lt. c.loop-partition.invariant.done k (omega (arith, c.requires, c.loop-partition-test.false)))
