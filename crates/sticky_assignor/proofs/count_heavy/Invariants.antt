use Rattle.std.proofs.Common.{◌≡◌, ◌+◌, ◌≤◌, drop}
use Rattle.sticky_assignor.specs.Private.Filling.{heavies_by}
use Rattle.sticky_assignor.proofs.count_heavy.Given as goal

abbrev pub invariant-loop-count : goal.invariant-loop-count
invariant-loop-count l = record {
  few : l.heavy ≤ l.count-index;
  so_far : l.heavy + heavies_by l.share (drop l.count-index l.counts) ≡ heavies_by l.share l.counts;
}
