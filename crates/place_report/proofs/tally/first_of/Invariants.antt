use Rattle.std.proofs.Common.{◌≡◌, drop}
use Rattle.std.specs.Prelude.{◌==◌, find}
use Rattle.keyed_table.specs.Counts.{plain}
use Rattle.place_report.proofs.tally.first_of.Given as goal

abbrev pub invariant-loop-i : goal.invariant-loop-i
invariant-loop-i l = find (λ id. plain l.ids id == l.most) l.ids ≡ find (λ id. plain l.ids id == l.most) (drop l.i l.ids)
