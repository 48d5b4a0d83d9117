-- The view of an iterator over elements: the list of those that are left.
use Rattle.std.specs.Prelude.{ℕ, List, drop}
use Rattle.bit_planes.specs.PartitionSet.{rank, elements}
use Rattle.bit_planes.specs.declared.elements.Elements.TheInside.{Inside}

-- the elements at or above the next number
abbrev pub elements_left : Inside → List ℕ
elements_left a = drop (rank a.plane.now a.from) (elements a.plane.now)
