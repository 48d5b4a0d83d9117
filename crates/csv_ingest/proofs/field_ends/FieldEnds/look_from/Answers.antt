use Rattle.std.proofs.Common.{arith, rules, w64, ◌+◌, inl, inr, refl}
use Rattle.std.proofs.lemmas.Nat.Bits.{bit_at-trailing_zeros}
use Rattle.csv_ingest.proofs.Marks.{first-mark, later-first, no-marks, none-both}
use Rattle.csv_ingest.proofs.field_ends.FieldEnds.look_from.Goals as goal

pub returns-then-marks-ne0-clause-first : goal.returns-then-marks-ne0-clause-first
returns-then-marks-ne0-clause-first c =
    let d = c.args.delimiter in
    let text = c.args.text.now in
    let at = c.loop-at.at in
    let marks = c.marks_among-marks.result in
    let first = bit_at-trailing_zeros w64 marks (omega (arith, c.if-marks-ne0.true)) (search rules) in
    later-first d 13 10 text c.args.start at _ c.loop-at.invariant.order c.loop-at.invariant.none
    (first-mark 64 d 13 10 text at marks _ c.loop-at-test.true c.marks_among-marks.ensures first.1 first.2)

pub loop-at-preserved : goal.loop-at-preserved
loop-at-preserved c =
    let d = c.args.delimiter in
    let text = c.args.text.now in
    let at = c.loop-at.at in
    record {
      order = omega (arith, c.loop-at.invariant.order);
      within = c.loop-at-test.true;
      none = none-both d 13 10 text c.args.start at (at + 64) c.loop-at.invariant.none
          (no-marks 64 d 13 10 text at c.marks_among-marks.result c.marks_among-marks.ensures c.if-marks-ne0.false);
    }

pub returns-then-marks-ne0-clause-ends : goal.returns-then-marks-ne0-clause-ends
returns-then-marks-ne0-clause-ends c = inr (c.loop-at-test.true, c.marks_among-marks.ensures)

pub returns-clause-first : goal.returns-clause-first
returns-clause-first c =
    later-first c.args.delimiter 13 10 c.args.text.now c.args.start c.loop-at.at c.first_of.result c.loop-at.invariant.order c.loop-at.invariant.none c.first_of.ensures

pub returns-clause-ends : goal.returns-clause-ends
returns-clause-ends c = inl refl
