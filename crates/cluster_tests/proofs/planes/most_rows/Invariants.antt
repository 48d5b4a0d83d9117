use Rattle.std.proofs.Common.{◌≡◌}
use Rattle.lane_words.specs.declared.limits.TheConstants.{MOST_PARTITIONS}
use Rattle.cluster_tests.proofs.planes.most_rows.Given as goal

abbrev pub invariant-loop-i : goal.invariant-loop-i
invariant-loop-i l = l.rows.partitions ≡ MOST_PARTITIONS
