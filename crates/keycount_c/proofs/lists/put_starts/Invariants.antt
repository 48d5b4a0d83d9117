use Rattle.std.proofs.Common.{map}
use Rattle.bit_planes.specs.PartitionSet.{elements}
use Rattle.group_machine.specs.Cluster.{start_of}
use Rattle.keycount_c.proofs.Filling.{AreOf, IsFilling}
use Rattle.keycount_c.proofs.lists.put_starts.Given as goal

abbrev pub invariant-loop-q : goal.invariant-loop-q
invariant-loop-q l = IsFilling (map (start_of l.lease) (elements l.lease.assigned)) (map (start_of l.lease) l.q-iterator) l.count l.out l.fn.out × AreOf l.lease.assigned l.q-iterator
