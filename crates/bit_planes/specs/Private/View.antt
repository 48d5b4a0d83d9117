-- The view of a plane as a set.
use Rattle.std.specs.Prelude.{◌≤◌}
use Rattle.lane_words.specs.declared.limits.TheConstants.{MOST_PARTITIONS}
use Rattle.bit_planes.specs.PartitionSet.{PartitionSet, set_where}
use Rattle.bit_planes.specs.Private.Bits.{bit_of, AreClearFrom}
use Rattle.bit_planes.specs.declared.plane.Plane.TheInside.{Inside}

-- the partitions whose bit is set
abbrev pub plane_view : Inside → PartitionSet
plane_view a = set_where a.partitions (bit_of a.words)

-- the invariant of a plane
pub record IsValidPlane (a : Inside) : Type 0 where
  pub some : 1 ≤ a.partitions
  pub few : a.partitions ≤ MOST_PARTITIONS
  pub clear : AreClearFrom a.words a.partitions
