use Rattle.std.proofs.Common.{◌∙◌, ◌+◌, [], ◌∷◌, ◌++◌, rules, arith, get_or, length-append, refl, sym}
use Rattle.csv_ingest.proofs.Fields.{Starts, line-end, no-line-end, reads-blank, reads-delimiter, reads-end, reads-fault, reads-first, reads-last, reads-last-fault, reads-over, row-takes}
use Rattle.csv_ingest.specs.Private.Fields.{key_of}
use Rattle.csv_ingest.proofs.scan.scan.Goals as goal
use Rattle.csv_ingest.proofs.scan.scan.Goals.{else-is_at+in_ok-give_to, else-row-eq0-via-else-row-eq0, else-row-eq0-via-then-row-eq0+else-is_line_end, else-row-gt0, then-is_at, then-row-gt0+in_ok-give_to-2}

pub loop-at-init : goal.loop-at-init
loop-at-init g c = record {
  few = omega arith;
  count = omega (arith, c.new-row.ensures.none);
  far = omega arith;
  ends = c.none-ends.ensures c.args.delimiter c.args.text.now;
  reads = (
    [],
    refl,
    g.met.K.KeySink.takes_nothing c.args.keys.now,
    reads-first c.args.delimiter c.args.text.now c.args.column c.args.width [] c.new-row.result refl c.requires.unmarked (c.new-row.ensures.row c.args.column) c.new-row.ensures.none,
  );
}

pub loop-at-preserved-then-is_line_end : goal.loop-at-preserved-then-is_line_end
loop-at-preserved-then-is_line_end g c =
    let inv = c.loop-at.invariant in
    let far = inv.reads in
    record {
      few = omega (arith, inv.few);
      count = omega (arith, inv.count);
      far = omega (arith, c.loop-at-test.true);
      ends = inv.ends;
      reads = (
        far.0,
        far.1,
        far.2,
        reads-blank c.args.delimiter c.args.text.now c.args.column c.args.width far.0 (c.loop-at.taken + 1) c.loop-at.row c.loop-at.at far.3 c.loop-at-test.true c.if-row-eq0.true
            (line-end (get_or c.args.text.now c.loop-at.at 0) (sym c.is_line_end.ensures ∙ c.if-is_line_end.true)),
      );
    }

pub returns-in_err-give_to-clause-keys : goal.returns-in_err-give_to-clause-keys
returns-in_err-give_to-clause-keys g c =
    let starts : Starts c.args.text.now c.loop-at.at c.loop-at.row =
    elim c.else-row-eq0.branch [
      | else-row-eq0-via-then-row-eq0+else-is_line_end w ↦ (c.loop-at-test.true, λ none ends. no-line-end (get_or c.args.text.now c.loop-at.at 0) (sym w.is_line_end.ensures ∙ w.if-is_line_end.false) ends)
      | else-row-eq0-via-else-row-eq0 w ↦ (c.loop-at-test.true, λ none ends. w.if-row-eq0.false none)
    ] in
    let far = c.loop-at.invariant.reads in
    let fault =
    reads-fault c.args.delimiter c.args.text.now c.args.column c.args.width far.0 (c.loop-at.taken + 1) c.loop-at.row c.read_field.new.self c.loop-at.at c.in_ok-end.end c.in_err-give_to.field-0.0
    far.3 starts c.in_ok-end.ensures.field (c.is_at.ensures.if_false c.if-is_at.false) c.in_err-give_to.ensures.fault in
    search rules

pub loop-at-preserved : goal.loop-at-preserved
loop-at-preserved g c =
    let inv = c.loop-at.invariant in
    let so = inv.reads in
    let field = c.in_ok-end.ensures.field in
    let starts : Starts c.args.text.now c.loop-at.at c.loop-at.row =
    elim c.else-row-eq0.branch [
      | else-row-eq0-via-then-row-eq0+else-is_line_end w ↦ (c.loop-at-test.true, λ none ends. no-line-end (get_or c.args.text.now c.loop-at.at 0) (sym w.is_line_end.ensures ∙ w.if-is_line_end.false) ends)
      | else-row-eq0-via-else-row-eq0 w ↦ (c.loop-at-test.true, λ none ends. w.if-row-eq0.false none)
    ] in
    elim c.if-is_at.branch [
      | then-is_at w ↦
          let there = c.is_at.ensures.if_true w.if-is_at.true in
          rw (w.keys-is, w.row-is, w.taken-is) record {
            few = omega (arith, inv.few, field.ends.order);
            count = omega (arith, w.go_on.ensures.count, c.in_ok-end.ensures.count, inv.count, field.ends.order);
            far = omega (arith, there.0);
            ends = c.read_field.ensures.ends;
            reads = (
              so.0,
              so.1,
              so.2,
              reads-delimiter c.args.delimiter c.args.text.now c.args.column c.args.width so.0 (c.loop-at.taken + 1) c.loop-at.row c.read_field.new.self w.go_on.new.self c.loop-at.at c.in_ok-end.end so.3 starts field
                  there.0 there.1 w.go_on.ensures.count (w.go_on.ensures.row c.args.column),
            );
          }
      | else-is_at+in_ok-give_to w ↦
          let given = w.in_ok-give_to.ensures in
          let row = c.read_field.new.self in
          let key = key_of row in
          let more = so.0 ++ key ∷ [] in
          rw (w.keys-is, w.row-is, w.taken-is) record {
            few = omega (arith, inv.few, field.ends.order);
            count = omega (arith, w.start_over.ensures.none);
            far = omega (arith, field.ends.within);
            ends = c.read_field.ensures.ends;
            reads = (
              more,
              omega (arith, so.1, length-append so.0 (key ∷ [])),
              g.met.K.KeySink.takes_more c.args.keys.now c.loop-at.keys w.give_to.new.keys so.0 (key ∷ []) so.2 given.key,
              reads-end c.args.delimiter c.args.text.now c.args.column c.args.width so.0 more (c.loop-at.taken + 1) c.loop-at.row row w.start_over.new.self c.loop-at.at c.in_ok-end.end
                  so.3 starts field (c.is_at.ensures.if_false w.if-is_at.false)
                  (λ fields is. row-takes c.args.column row c.args.width (c.loop-at.taken + 1) so.0 more fields given.count.0 given.count.1 refl is)
                  w.start_over.ensures.none (w.start_over.ensures.row c.args.column),
            );
          }
    ]

pub returns-in_err-give_to-2-clause-keys : goal.returns-in_err-give_to-2-clause-keys
returns-in_err-give_to-2-clause-keys g c =
    let so = c.loop-at.invariant.reads in
    let fault =
    reads-last-fault c.args.delimiter c.args.text.now c.args.column c.args.width so.0 (c.loop-at.taken + 1) c.loop-at.row c.loop-at.at c.in_err-give_to-2.field-0.0 so.3
    (omega (arith, c.loop-at-test.false)) (λ none. absurd (omega (arith, none, c.if-row-gt0.true))) c.in_err-give_to-2.ensures.fault in
    search rules

pub returns-clause-keys : goal.returns-clause-keys
returns-clause-keys g c =
    let so = c.loop-at.invariant.reads in
    elim c.if-row-gt0.branch [
      | then-row-gt0+in_ok-give_to-2 w ↦
          let given = w.in_ok-give_to-2.ensures in
          let key = key_of c.loop-at.row in
          let more = so.0 ++ key ∷ [] in
          rw (w.keys-is, w.taken-is) (
            more,
            reads-last c.args.delimiter c.args.text.now c.args.column c.args.width so.0 more (c.loop-at.taken + 1) c.loop-at.row c.loop-at.at so.3
                (omega (arith, c.loop-at-test.false)) (λ none. absurd (omega (arith, none, w.if-row-gt0.true)))
                (λ fields is. row-takes c.args.column c.loop-at.row c.args.width (c.loop-at.taken + 1) so.0 more fields given.count.0 given.count.1 refl is),
            omega (arith, so.1, length-append so.0 (key ∷ [])),
            g.met.K.KeySink.takes_more c.args.keys.now c.loop-at.keys w.give_to-then-row-gt0.new.keys so.0 (key ∷ []) so.2 given.key,
          )
      | else-row-gt0 w ↦
          rw (w.keys-is, w.taken-is) (
            so.0,
            reads-over c.args.delimiter c.args.text.now c.args.column c.args.width so.0 (c.loop-at.taken + 1) c.loop-at.row c.loop-at.at so.3 (omega (arith, c.loop-at-test.false))
                (omega (arith, w.if-row-gt0.false)),
            so.1,
            so.2,
          )
    ]
