use Rattle.std.proofs.Common.{◌≡◌, length}
use Rattle.partitioner.specs.Private.Groups.{AreComputed}
use Rattle.partitioner.proofs.hashing.hash_eight.Given as goal

abbrev pub invariant-loop-lane : goal.invariant-loop-lane
invariant-loop-lane l = record { long : length l.hashes ≡ length l.keys; computed : AreComputed l.keys l.hashes }
