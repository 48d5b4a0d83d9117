-- The partition of a key is one of all partitions.
use Rattle.std.proofs.Common.{ℕ, ◌<◌, ◌≤◌, List, arith}
use Rattle.partitioner.specs.Place.{place_of}
