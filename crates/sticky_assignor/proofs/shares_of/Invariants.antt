use Rattle.std.proofs.Common.{◌≡◌, ◌++◌, drop}
use Rattle.sticky_assignor.specs.Private.Filling.{shares_by}
use Rattle.sticky_assignor.proofs.shares_of.Given as goal

abbrev pub invariant-loop-count : goal.invariant-loop-count
invariant-loop-count l = l.quotas.items ++ shares_by l.share l.heavy_left l.others_left (drop l.count-index l.counts) ≡ shares_by l.share l.for_heavy l.for_others l.counts
