use Rattle.cluster_tests.proofs.reference_plane.Flags.{HasPassed}
use Rattle.cluster_tests.proofs.reference_plane.ReferencePlane.some_pass.Given as goal

abbrev pub invariant-loop-q : goal.invariant-loop-q
invariant-loop-q g l = HasPassed (goal.F-post g l.test) l.self l.other l.q l.passed
