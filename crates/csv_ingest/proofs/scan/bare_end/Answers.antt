use Rattle.std.proofs.Common.{◌+◌, ◌-◌, ◌≡◌, arith, get_or, subst, slice_range}
use Rattle.csv.specs.declared.parser.State.TheVariants as st
use Rattle.csv_ingest.specs.Private.ByteSearch.{HasNone}
use Rattle.csv_ingest.proofs.Fields.{Goes, bare-run, end-here}
use Rattle.csv_ingest.proofs.scan.bare_end.Goals as goal

pub returns-clause-field : goal.returns-clause-field
returns-clause-field c =
    let end = c.first_from.ensures.first in
    let d = c.args.delimiter in
    let text = c.args.text.now in
    let at = c.args.at in
    let to = c.first_from.result in
    let there : at + (to - at) ≡ to = omega (arith, end.order) in
    record {
      order = end.order;
      within = end.within;
      ended = λ lt. end-here d (get_or text to 0) (end.is lt);
      walked = subst (λ i. HasNone d 13 10 text at i → Goes d st.InField st.InField text at i (slice_range text at i)) there (bare-run d text at (to - at) (omega (arith, end.order, end.within))) end.none;
    }
