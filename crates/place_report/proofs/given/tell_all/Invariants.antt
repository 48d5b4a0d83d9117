use Rattle.std.proofs.Common.{◌≡◌, ◌≤◌, ◌+◌, ◌-◌, ◌++◌, ℕ, List, drop, length, take}
use Rattle.std.specs.Prelude.{flat_map}
use Rattle.report_rows.specs.Rows.{HasText}
use Rattle.place_report.specs.declared.given.TheConstants.{MOST_TOLD}
use Rattle.place_report.specs.Private.Given.{misplaced_from, misplaced_in}
use Rattle.place_report.proofs.given.tell_all.Given as goal

abbrev pub invariant-loop-i : goal.invariant-loop-i
invariant-loop-i l = record {
  few : l.told ≤ MOST_TOLD;
  count : length (misplaced_in l.topics l.given) ≡ l.told + length (misplaced_from l.topics l.given l.i);
  rows : (text : List ℕ) → HasText l.fn.writer text → (done : List ℕ) × HasText l.writer done
      × (done ++ flat_map (λ row. row) (take (MOST_TOLD - l.told) (misplaced_from l.topics l.given l.i))
      ≡ text ++ flat_map (λ row. row) (take MOST_TOLD (misplaced_in l.topics l.given)));
}
