use Rattle.std.proofs.Common.{◌≡◌, length}
use Rattle.partitioner.proofs.Groups.{AreHashedBelow}
use Rattle.partitioner.proofs.hashing.hash_rest.Given as goal

abbrev pub invariant-loop-i : goal.invariant-loop-i
invariant-loop-i l = record { long : length l.hashes ≡ length l.keys; hashed : AreHashedBelow l.i l.keys l.hashes }
