use Rattle.std.proofs.Common.{◌≡◌, length}
use Rattle.timeline.specs.Holders.{are_same_spans}
use Rattle.timeline.proofs.holders.are_same_spans.Given as goal

abbrev pub invariant-loop-a : goal.invariant-loop-a
invariant-loop-a l = are_same_spans l.a l.b ≡ are_same_spans l.fn.a l.fn.b

abbrev pub decreases-loop-a : goal.decreases-loop-a
decreases-loop-a l = length l.a
