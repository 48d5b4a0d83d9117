use Rattle.std.proofs.Common.{length, ◌-◌}
use Rattle.log_tests.proofs.reference_places.place_sequential.Given as goal

abbrev pub decreases-loop-from : goal.decreases-loop-from
decreases-loop-from g l = length l.keys - l.from
