use Rattle.std.proofs.Common.{false, true, replicate}
use Rattle.cluster_tests.proofs.reference_plane.Flags.{AreMarked}
use Rattle.cluster_tests.proofs.reference_plane.ReferencePlane.full.Given as goal

abbrev pub invariant-loop-q : goal.invariant-loop-q
invariant-loop-q l = AreMarked (replicate 4096 false) (λ q. true) l.q l.flags
