use Rattle.group_machine.proofs.TableLemmas.{not_same}
use Rattle.group_machine.proofs.group.is_equal.Goals as goal

pub returns-else-partitions : goal.returns-else-partitions
returns-else-partitions c = not_same c.args.claim.now c.args.assigned.now c.partitions.result c.partitions-2.result c.partitions.ensures.value c.partitions-2.ensures.value c.if-partitions.false
