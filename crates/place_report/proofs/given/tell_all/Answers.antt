use Rattle.std.proofs.Common.{◌≡◌, ◌∙◌, ◌+◌, ◌-◌, ◌<◌, ◌≤◌, ◌++◌, [], List, ℕ, ap, arith, length, length-append, refl, subst, sym, take, true, false}
use Rattle.std.proofs.lemmas.List.{append-nil}
use Rattle.place_report.specs.declared.given.TheConstants.{MOST_TOLD}
use Rattle.std.specs.Prelude.{flat_map, nat_lt}
use Rattle.std.proofs.lemmas.Bool.{le-ltb, lt-ltb}
use Rattle.report_rows.specs.Rows.{HasText}
use Rattle.place_report.specs.Private.Given.{misplaced_from, misplaced_in, row_at}
use Rattle.place_report.proofs.Told.{next_row, no_rows, told_all, told_enough, told_more, told_none, told_one}
use Rattle.place_report.proofs.given.tell_all.Goals as goal
use Rattle.place_report.proofs.given.tell_all.Goals.{then-misplaced, else-misplaced}

pub returns-then-told-eq-MOST_TOLD-clause-ok : goal.returns-then-told-eq-MOST_TOLD-clause-ok
returns-then-told-eq-MOST_TOLD-clause-ok c text begun =
    let so_far = c.loop-i.invariant.rows text begun in
    subst (λ (all : List ℕ). HasText c.loop-i.writer all) (told_enough so_far.0 (text ++ flat_map (λ row. row) (take MOST_TOLD (misplaced_in c.args.topics.now c.args.given.now))) (MOST_TOLD - c.loop-i.told) (misplaced_from c.args.topics.now c.args.given.now c.loop-i.i) (omega (arith, c.if-told-eq-MOST_TOLD.true)) so_far.2) so_far.1

pub loop-i-preserved : goal.loop-i-preserved
loop-i-preserved c =
    let topics = c.args.topics.now in
    let given = c.args.given.now in
    let i = c.loop-i.i in
    let next = next_row topics given i c.requires.len (omega arith) in
    let row = row_at topics given i in
    let rest = misplaced_from topics given (i + 1) in
    let long = ap length next ∙ length-append row rest in
    elim c.if-misplaced.branch [
      | then-misplaced w ↦
          let one = told_one topics given i (sym c.in_ok-misplaced.ensures.value ∙ w.if-misplaced.true) in
          let left : MOST_TOLD - c.if-misplaced.told ≡ (MOST_TOLD - c.loop-i.told) - 1 = omega (arith, w.told-is) in
          record {
            few = omega (arith, w.told-is, c.loop-i.invariant.few, c.if-told-eq-MOST_TOLD.false);
            count = omega (arith, w.told-is, c.loop-i.invariant.count, long, one);
            rows = λ text begun.
                let so_far = c.loop-i.invariant.rows text begun in
                let more = told_more so_far.0 row rest (misplaced_from topics given i) (MOST_TOLD - c.loop-i.told) one (omega (arith, c.loop-i.invariant.few, c.if-told-eq-MOST_TOLD.false)) next in
                (_, c.in_ok-misplaced.ensures.ok so_far.0 so_far.1, ap (λ n. (so_far.0 ++ flat_map (λ r. r) row) ++ flat_map (λ r. r) (take n rest)) left ∙ more ∙ so_far.2);
          }
      | else-misplaced w ↦
          let none = told_none topics given i (sym c.in_ok-misplaced.ensures.value ∙ w.if-misplaced.false) in
          let same : misplaced_from topics given i ≡ rest = next ∙ ap (λ r. r ++ rest) none in
          record {
            few = omega (arith, w.told-is, c.loop-i.invariant.few);
            count = omega (arith, w.told-is, c.loop-i.invariant.count, ap length same);
            rows = λ text begun.
                let so_far = c.loop-i.invariant.rows text begun in
                let told = c.in_ok-misplaced.ensures.ok so_far.0 so_far.1 in
                let nothing : so_far.0 ++ flat_map (λ r. r) row ≡ so_far.0 = ap (λ r. so_far.0 ++ flat_map (λ r. r) r) none ∙ append-nil so_far.0 in (
                  so_far.0,
                  subst (λ (all : List ℕ). HasText c.tell.new.writer all) nothing told,
                  ap (λ n. so_far.0 ++ flat_map (λ r. r) (take (MOST_TOLD - n) rest)) w.told-is
                      ∙ ap (λ rows. so_far.0 ++ flat_map (λ r. r) (take (MOST_TOLD - c.loop-i.told) rows)) (sym same) ∙ so_far.2,
                );
          }
    ]

pub returns-clause-ok : goal.returns-clause-ok
returns-clause-ok c text begun =
    let so_far = c.loop-i.invariant.rows text begun in
    let none = no_rows c.args.topics.now c.args.given.now c.loop-i.i (omega arith) in
    subst (λ (all : List ℕ). HasText c.loop-i.writer all) (told_all so_far.0 _ _ _ none so_far.2) so_far.1

pub returns-clause-value : goal.returns-clause-value
returns-clause-value c =
    let none = ap length (no_rows c.args.topics.now c.args.given.now c.loop-i.i (omega arith)) in
    let count : c.loop-i.told ≡ length (misplaced_in c.args.topics.now c.args.given.now) = omega (arith, c.loop-i.invariant.count, none) in
    ap (nat_lt 0) count
