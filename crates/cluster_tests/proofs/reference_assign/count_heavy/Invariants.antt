use Rattle.std.proofs.Common.{◌≡◌, ◌+◌, ◌≤◌, drop}
use Rattle.bit_planes.specs.SetRows.{sets_of}
use Rattle.sticky_assignor.specs.Target.{heavies}
use Rattle.cluster_tests.proofs.reference_assign.count_heavy.Given as goal

abbrev pub invariant-loop-member : goal.invariant-loop-member
invariant-loop-member l = record {
  few : l.heavy ≤ l.member-index;
  so_far : l.heavy + heavies l.share (sets_of l.owned (drop l.member-index l.members)) ≡ heavies l.share (sets_of l.owned l.members);
}
