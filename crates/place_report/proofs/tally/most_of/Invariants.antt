use Rattle.std.proofs.Common.{◌≡◌, take}
use Rattle.std.specs.Prelude.{fold, max}
use Rattle.keyed_table.specs.Counts.{plain}
use Rattle.place_report.proofs.tally.most_of.Given as goal

abbrev pub invariant-loop-i : goal.invariant-loop-i
invariant-loop-i l = l.most ≡ fold (λ most id. max most (plain l.ids id)) 0 (take l.i l.ids)
