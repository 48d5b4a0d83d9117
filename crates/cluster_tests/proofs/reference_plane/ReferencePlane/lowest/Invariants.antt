use Rattle.cluster_tests.proofs.reference_plane.Flags.{AreTrimmed}
use Rattle.cluster_tests.proofs.reference_plane.ReferencePlane.lowest.Given as goal

abbrev pub invariant-loop-q : goal.invariant-loop-q
invariant-loop-q l = AreTrimmed l.self-inside.flags l.self l.n l.q l.flags l.left
