use Rattle.std.proofs.Common.{ℕ, ◌≡◌, ◌<◌, ◌≤◌, false, length, get_or}
use Rattle.bit_planes.specs.PartitionSet.{is_in}
use Rattle.cluster_tests.proofs.reference_plane.ReferencePlane.combined.Given as goal

abbrev pub invariant-loop-q : goal.invariant-loop-q
invariant-loop-q g l = record {
  len : length l.flags ≡ 4096;
  done : (q : ℕ) → q < l.q → goal.F-post g l.test (is_in l.self q) (is_in l.other q) (get_or l.flags q false);
  left : (q : ℕ) → l.q ≤ q → get_or l.flags q false ≡ get_or l.self-inside.flags q false;
}
