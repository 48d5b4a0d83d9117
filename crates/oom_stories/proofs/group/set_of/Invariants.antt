use Rattle.std.proofs.Common.{◌≡◌}
use Rattle.bit_planes.specs.PartitionSet.{partitions_of}
use Rattle.oom_stories.proofs.group.set_of.Given as goal

abbrev pub invariant-loop-q : goal.invariant-loop-q
invariant-loop-q l = partitions_of l.set ≡ 4
