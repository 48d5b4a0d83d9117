use Rattle.std.proofs.Common.{◌≡◌, ◌∙◌, ◌+◌, ◌-◌, ◌≤◌, ◌∷◌, ap, arith, get_or, vec_items}
use Rattle.std.specs.Prelude.{flat_map}
use Rattle.report_rows.specs.CountRows.{rows_between}
use Rattle.count_report.proofs.PartTexts.{both-texts}
use Rattle.count_report.proofs.count.+first_rows.Goals as goal

pub returns : goal.returns
returns g t c =
    let m = c.args.merging.now in
    let count = c.args.count in
    let from = c.saturating_sub-from.result in
    let now = c.forget_from.new.self in
    let is = c.forget_from.ensures in
    let le : from ≤ count = omega arith in
    let rest : from + (count - from) ≡ count = omega (arith, le) in
    let first : flat_map vec_items c.in_ok-texts.texts.items ≡ rows_between m.keys m.counts 0 (get_or (0 ∷ m.ends) from 0) =
    c.in_ok-texts.ensures ∙ ap (λ ks. rows_between ks now.counts 0 (get_or (0 ∷ now.ends) from 0)) is.keys
    ∙ ap (λ ns. rows_between m.keys ns 0 (get_or (0 ∷ now.ends) from 0)) is.counts ∙ ap (λ es. rows_between m.keys m.counts 0 (get_or (0 ∷ es) from 0)) is.ends in
    let last : flat_map vec_items c.in_ok-last.last.items ≡ rows_between m.keys m.counts (get_or (0 ∷ m.ends) from 0) (get_or (0 ∷ m.ends) count 0) =
    c.in_ok-last.ensures ∙ ap (λ k. rows_between m.keys m.counts (get_or (0 ∷ m.ends) from 0) (get_or (0 ∷ m.ends) k 0)) rest in
    ap (flat_map vec_items) c.in_ok-append.ensures.items ∙ both-texts m from count c.in_ok-texts.texts.items c.in_ok-last.last.items c.requires.divided le c.requires.within first last
