use Rattle.std.proofs.Common.{◌≡◌, ◌∙◌, ap, drop, sym, length, length-take-le, refl, subst, ℕ, List, true, inl, inr}
use Rattle.std.proofs.lemmas.Bool.Decides.{eqb_tells}
use lib.Dec.{eqb}
use Rattle.csv_ingest.specs.Private.Wanted.{taking}
use Rattle.key_stream.specs.Counting.{Refills}
use Rattle.ingest.proofs.Checking.{counted-fault, split-within}
use Rattle.ingest.proofs.counted.count_window.Goals.{else-at_end, then-at_end}
use Rattle.ingest.proofs.counted.count_window.Goals as goal

eqb_true : (a b : ℕ) → eqb a b ≡ true → a ≡ b
eqb_true a b is = elim (eqb_tells a b) [ inl same ↦ same.1 | inr other ↦ absurd (cc (sym is ∙ other.0)) ]

pub returns-in-Err-clause-err : goal.returns-in-Err-clause-err
returns-in-Err-clause-err g c =
    let so = rw c.text-text.ensures at c.in_ok-split.ensures in
    elim c.in-Err.ensures.err [
      | inl read ↦ inl read
      | inr fault ↦
          elim fault.1 [
            | inl memory ↦ inr (fault.0, inl memory)
            | inr bad ↦ inr (fault.0, inr (bad _ _ so))
          ]
    ]

pub slice_bounds-check_chunk-end : goal.slice_bounds-check_chunk-end
slice_bounds-check_chunk-end g c = sym (length-take-le c.in_ok-split.split.taken c.text-text.result.now (split-within _ _ _ _ c.in_ok-split.ensures))

pub returns-in-Err-check_chunk-clause-err : goal.returns-in-Err-check_chunk-clause-err
returns-in-Err-check_chunk-clause-err g c =
    let layout = c.args.layout.now in
    let so = rw c.text-text.ensures at c.in_ok-split.ensures in
    elim c.in-Err-check_chunk.ensures.err [
      | inl memory ↦ inr (c.in-Ok.ensures.no_failures, inl memory)
      | inr bad ↦
          inr (
            c.in-Ok.ensures.no_failures,
            inr (counted-fault layout.delimiter (taking layout.wanted.now) layout.header c.args.windows.now.at_end c.args.windows.now.window c.in_ok-split.split.taken c.args.counting.now c.take_and_read.new.counting c.in-Err-check_chunk.fault
                (c.in-Ok.ensures.ok _ _ so) (rw c.text-text.ensures at bad)),
          )
    ]

pub returns-clause-ok : goal.returns-clause-ok
returns-clause-ok g c =
    let windows = c.args.windows.now in
    let so = rw c.text-text.ensures at c.in_ok-split.ensures in
    let split = c.in_ok-split.split in
    let next = rw (so.end, so.rest) at c.in-Ok.ensures.window in
    record {
      rest = drop split.taken windows.window;
      checks = record {
        counts = record {
          n = split.taken;
          taken = c.in-Ok.ensures.ok _ _ so;
          rest = refl;
          all = elim c.if-at_end.branch [
            | then-at_end w ↦ λ is. (w.if-at_end.true, eqb_true _ _ (sym w.done-is ∙ is) ∙ ap length c.text-text.ensures)
            | else-at_end w ↦ λ is. absurd (cc (sym is ∙ w.done-is ∙ w.if-at_end.false))
          ];
        };
        checks = rw c.text-text.ensures at c.in-Ok-check_chunk.ensures.ok;
      };
      reads = subst (λ (window : List ℕ). Refills windows.at_end c.in-Ok.end (g.S.Source.left c.args.source.now) (g.S.Source.left c.take_and_read.new.source) (drop split.taken windows.window) window) (sym c.swap.ensures.x_after) next;
    }
