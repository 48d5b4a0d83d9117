use Rattle.std.proofs.Common.{◌≡◌, ◌<◌, length}
use Rattle.std.specs.Prelude.{All}
use Rattle.log_tests.proofs.places.rotating_topics.Given as goal

abbrev pub invariant-loop-i : goal.invariant-loop-i
invariant-loop-i l = record { long : length l.topics.items ≡ l.i; among : All (λ topic. topic < 8) l.topics.items }
