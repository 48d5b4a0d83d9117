use Rattle.std.proofs.Common.{rules, arith, ◌≡◌, ◌∙◌, ◌<◌, ap, sym, length, refl}
use Rattle.csv_ingest.specs.Private.Pieces.{lent}
use Rattle.key_stream.proofs.TakenFirst.{front-within, lent-front, one-left}
use Rattle.key_stream.proofs.counting.Counting.split.Goals as goal

pub length_of-taken-requires : goal.length_of-taken-requires
length_of-taken-requires c =
    let pieces = c.in_ok-pieces.pieces.items in
    let few = front-within c.args.delimiter (lent pieces) c.args.text.now c.saturating_sub-count.result c.in_ok-pieces.ensures in
    let same = ap length (lent-front pieces c.deref.result.now c.saturating_sub-count.result c.deref.ensures.value) in
    let within : length c.args.text.now < 18446744073709551616 = search rules in
    omega (arith, few, same, within)

pub rest_of-requires : goal.rest_of-requires
rest_of-requires c =
    let pieces = c.in_ok-pieces.pieces.items in
    let few = front-within c.args.delimiter (lent pieces) c.args.text.now c.saturating_sub-count.result c.in_ok-pieces.ensures in
    let same = ap length (lent-front pieces c.deref.result.now c.saturating_sub-count.result c.deref.ensures.value) in
    omega (arith, few, same, c.length_of-taken.ensures)

pub returns : goal.returns
returns c =
    let pieces = c.in_ok-pieces.pieces.items in
    let many : c.len-2.result ≡ length pieces = c.len-2.ensures ∙ sym c.deref.ensures.len ∙ ap length c.deref.ensures.value in
    let count = c.saturating_sub-count.ensures in
    record {
      pieces = c.in_ok-pieces.ensures;
      within = omega (arith, count, many);
      left = λ goes some. one-left c.args.at_end pieces c.len-2.result c.from-behind.result c.saturating_sub-count.result many c.from-behind.ensures count some goes;
      taken = c.length_of-taken.ensures ∙ ap length (lent-front pieces c.deref.result.now c.saturating_sub-count.result c.deref.ensures.value);
      rest = c.rest_of.ensures;
      end = refl;
    }
