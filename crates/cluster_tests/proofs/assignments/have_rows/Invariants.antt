use Rattle.std.proofs.Common.{ℕ, ◌<◌, slice_index, IsSome}
use Rattle.bit_planes.specs.SetRows.{row_of}
use Rattle.cluster_tests.proofs.assignments.have_rows.Given as goal

abbrev pub invariant-loop-member : goal.invariant-loop-member
invariant-loop-member l = (k : ℕ) → k < l.member-index → IsSome (row_of l.owned (slice_index l.members k))
