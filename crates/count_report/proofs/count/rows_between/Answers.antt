use Rattle.std.proofs.Common.{◌+◌, rules}
use Rattle.parallel.proofs.Placed.{both-give}
use Rattle.count_report.specs.Private.Counted.{AreTextsOfParts}
use Rattle.count_report.proofs.PartTexts.{all-texts}
use Rattle.count_report.proofs.count.rows_between.Goals as goal

pub returns : goal.returns
returns g c =
    let m = c.args.merging.now in
    let from = c.args.from in
    let count = c.args.count in
    both-give c.collect_each.result _ _ (AreTextsOfParts m from (from + count))
    (λ texts many each. all-texts m from count texts.items c.requires.divided c.requires.within many (λ i d lt. let own = (each i d lt).1.met in search rules)) c.collect_each.ensures.len c.collect_each.ensures.each
