use Rattle.std.proofs.Common.{◌≡◌, ◌++◌, drop}
use Rattle.bit_planes.specs.SetRows.{sets_of}
use Rattle.sticky_assignor.specs.Private.Filling.{shares}
use Rattle.cluster_tests.proofs.reference_assign.shares_of.Given as goal

abbrev pub invariant-loop-member : goal.invariant-loop-member
invariant-loop-member l = l.quotas.items ++ shares l.share l.heavy_left l.others_left (sets_of l.owned (drop l.member-index l.members)) ≡ shares l.share l.for_heavy l.for_others (sets_of l.owned l.members)
