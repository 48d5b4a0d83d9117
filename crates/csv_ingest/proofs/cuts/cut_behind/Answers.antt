use Rattle.std.proofs.Common.{◌∙◌, ◌≡◌, ◌≤◌, ℕ, List, Option, Some, None, ap, arith, drop, length, sym, take}
use Rattle.std.specs.Prelude.{◌++◌, IfSome, slice_index}
use Rattle.csv.proofs.WriteFacts.{slice-end}
use Rattle.csv.specs.Reading.{strip_bom}
use Rattle.csv_ingest.specs.Stand.{EndsRecord, IsCut, stand_after}
use Rattle.csv_ingest.specs.declared.stand.Stand.{Stand}
use Rattle.csv_ingest.specs.declared.stand.Stand.TheVariants as k
use Rattle.csv_ingest.proofs.Cutting.{stand-behind, strip-drop}
use Rattle.csv_ingest.proofs.cuts.cut_behind.Goals as goal

from-start : (delimiter : ℕ) (found : Option ℕ) (s : Stand) (before next : List ℕ) → 3 ≤ length before → s ≡ stand_after delimiter k.Record (strip_bom before)
    → IfSome found (λ cut. (slice_index next cut ≡ 10) × EndsRecord delimiter s (take cut next))
    → IfSome found (λ cut. (slice_index next cut ≡ 10) × IsCut delimiter (strip_bom (before ++ take cut next)))
from-start delimiter None s before next long e h = tt
from-start delimiter (Some cut) s before next long e h = (h.0, rw (stand-behind delimiter before (take cut next) long, ← e) h.1)

pub returns-in-Some-clause-cut : goal.returns-in-Some-clause-cut
returns-in-Some-clause-cut c =
    let delimiter = c.args.delimiter in
    let before = c.args.before.now in
    let found = c.in-Some.ensures.cut in
    (found.0, rw (stand-behind delimiter before (take c.in-Some.cut c.args.next.now) (omega arith)) (found.1 (stand_after delimiter k.Record (strip_bom before))))

pub returns-clause-cut : goal.returns-clause-cut
returns-clause-cut c =
    let delimiter = c.args.delimiter in
    let before = c.args.before.now in
    let same = rw (slice-end before c.mark_length-start.result) at c.stand_behind-stand.ensures in
    let start = ap (λ n. stand_after delimiter k.Record (drop n before)) c.mark_length-start.ensures.value in
    from-start delimiter c.open_cut.result c.stand_behind-stand.result before c.args.next.now (omega arith) (same ∙ start ∙ ap (stand_after delimiter k.Record) (sym (strip-drop before))) c.open_cut.ensures.cut
