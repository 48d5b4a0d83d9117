use Rattle.std.proofs.Common.{◌≡◌, length}
use Rattle.partitioner.specs.Private.Groups.{AreComputed, ArePendingFrom}
use Rattle.partitioner.proofs.hashing.hash_eights.Given as goal

abbrev pub invariant-loop-i : goal.invariant-loop-i
invariant-loop-i l = record { pending : ArePendingFrom l.keys 0 l.rows l.counts; long : length l.hashes ≡ length l.keys; computed : AreComputed l.keys l.hashes }
