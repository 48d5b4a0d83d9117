use Rattle.std.proofs.Common.{◌≡◌, length}
use Rattle.std.specs.Prelude.{fold}
use Rattle.check_report.specs.Warnings.{last_number}
use Rattle.check_report.proofs.warnings.last_number.Given as goal

abbrev pub invariant-places : goal.invariant-places
invariant-places l = last_number l.fn.places ≡ fold (λ last place. place.nth) l.last l.places

abbrev pub decreases-places : goal.decreases-places
decreases-places l = length l.places
