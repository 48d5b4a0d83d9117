use Rattle.cluster_tests.proofs.planes.are_equal.Goals as goal

-- the search stops over a clause of `contains`, whose premise is the test's own
pub next-requires : goal.next-requires
next-requires c = tt
