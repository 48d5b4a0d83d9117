use Rattle.std.proofs.Common.{◌≡◌, ◌∙◌, ap, arith, rules, vec_items}
use Rattle.std.specs.Prelude.{flat_map}
use Rattle.parallel.proofs.Placed.{both-give}
use Rattle.report_rows.specs.Private.Slices.{slices_of}
use Rattle.report_rows.specs.ReplayRows.{committed_count_rows}
use Rattle.report_rows.proofs.Slices.{all-slices}
use Rattle.report_rows.proofs.committed_rows.committed_texts.Goals as goal

pub returns : goal.returns
returns g c =
    let keys = c.args.keys.now in
    let counts = c.args.counts.now in
    let slices = c.div_ceil-slices.ensures ∙ ap slices_of c.count.ensures in
    both-give c.collect_each.result _ _ (λ texts. flat_map vec_items texts.items ≡ committed_count_rows keys counts)
    (λ texts many each. all-slices keys counts texts.items c.requires (many ∙ slices) (λ i d lt. let own = (each i d (omega (arith, lt, slices))).1.met in search rules)) c.collect_each.ensures.len c.collect_each.ensures.each
