use Rattle.std.proofs.Common.{◌≤◌, ◌+◌, ◌∙◌, ap, arith, sym, drop, get_or, ℕ, true, false, if◌then◌else◌}
use Rattle.csv_ingest.specs.Stand.{in_quotes, stand_after}
use Rattle.csv_ingest.specs.declared.stand.Stand.TheVariants as k
use Rattle.check_report.specs.Warnings.{ends_field, last_field_from}
use Rattle.check_report.proofs.Quotes.{after-end, after-more, last_field-end, last_field-more}
use Rattle.check_report.proofs.warnings.open_quote.Goals as goal

one_of : (b : _) (i start : ℕ) → start ≤ i → (if b then i + 1 else start) ≤ i + 1
one_of true i start le = omega arith
one_of false i start le = omega (arith, le)

pub loop-i-preserved : goal.loop-i-preserved
loop-i-preserved c =
    let file = c.args.file.now in
    let stand = c.loop-i.stand in
    let i = c.loop-i.i in
    let more = c.field_start-start.ensures in
    record {
      field = rw (c.next-stand.ensures, more) (c.loop-i.invariant.field ∙ last_field-more c.args.delimiter stand c.loop-i.start i file c.loop-i-test.true);
      after = rw c.next-stand.ensures (c.loop-i.invariant.after ∙ after-more c.args.delimiter stand i file c.loop-i-test.true);
      low = rw more (one_of (ends_field c.args.delimiter stand (get_or file i 0)) i c.loop-i.start c.loop-i.invariant.low);
    }

pub returns-then-is_quoted-clause-found : goal.returns-then-is_quoted-clause-found
returns-then-is_quoted-clause-found c =
    let file = c.args.file.now in
    let mark = c.mark_length-mark.ensures.value in
    let field = c.loop-i.invariant.field ∙ last_field-end c.args.delimiter c.loop-i.stand c.loop-i.start c.loop-i.i file c.loop-i-test.false in
    let after = c.loop-i.invariant.after ∙ after-end c.args.delimiter c.loop-i.stand c.loop-i.i file c.loop-i-test.false in (
      sym field ∙ ap (λ m. last_field_from c.args.delimiter k.Record m m (drop m file)) mark,
      ap in_quotes (ap (λ m. stand_after c.args.delimiter k.Record (drop m file)) (sym mark) ∙ after) ∙ sym c.is_quoted.ensures ∙ c.if-is_quoted.true,
    )

pub returns-else-is_quoted-clause-none : goal.returns-else-is_quoted-clause-none
returns-else-is_quoted-clause-none c =
    let file = c.args.file.now in
    let mark = c.mark_length-mark.ensures.value in
    let after = c.loop-i.invariant.after ∙ after-end c.args.delimiter c.loop-i.stand c.loop-i.i file c.loop-i-test.false in
    ap in_quotes (ap (λ m. stand_after c.args.delimiter k.Record (drop m file)) (sym mark) ∙ after) ∙ sym c.is_quoted.ensures ∙ c.if-is_quoted.false
