use Rattle.std.proofs.Common.{◌≡◌, ◌++◌, drop}
use Rattle.bit_planes.specs.SetRows.{sets_of}
use Rattle.sticky_assignor.specs.Private.Filling.{sizes}
use Rattle.sticky_assignor.proofs.counts_of.Given as goal

abbrev pub invariant-loop-member : goal.invariant-loop-member
invariant-loop-member l = l.counts.items ++ sizes (sets_of l.owned (drop l.member-index l.members)) ≡ sizes (sets_of l.owned l.members)
