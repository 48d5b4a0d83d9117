use Rattle.std.proofs.Common.{ap, arith, inl, length}
use Rattle.keycount_c.proofs.Present.{few_members}
use Rattle.keycount_c.proofs.lists.list_members.Goals as goal

pub count-requires-clause-fits : goal.count-requires-clause-fits
count-requires-clause-fits c =
    let few = few_members c.args.cluster.now.group.slots in
    let all = ap length c.members.ensures in
    inl (omega (arith, few, all, c.partitions.ensures.valid.group.sized.few_members))
