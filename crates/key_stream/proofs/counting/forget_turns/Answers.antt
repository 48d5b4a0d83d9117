use Rattle.std.proofs.Common.{[], ◌≡◌, ◌∙◌, ◌<◌, ap, arith, get_or-set_other, get_or-set_same, inl, inr, length, length-set, refl, slice_index_or, slice_set, subst, sym}
use Rattle.std.proofs.lemmas.Bool.{cases_eq}
use Rattle.key_stream.proofs.Turns.{entries-stay}
use Rattle.key_stream.specs.declared.worker.Worker.{Worker}
use Rattle.key_stream.proofs.counting.forget_turns.Goals as goal

pub loop-w-preserved : goal.loop-w-preserved
loop-w-preserved c =
    let workers = c.loop-w.workers in
    let w = c.loop-w.w in
    let d = c.index-workers-w.result in
    let next : Worker = record { counter = (slice_index_or workers w d).counter; turns = c.clear.new.self } in
    let inv = c.loop-w.invariant in
    let here : w < length workers = omega (arith, c.loop-w-test.true, inv.len) in
    record {
      len = length-set workers w next ∙ inv.len;
      entries = entries-stay workers w d next here refl ∙ inv.entries;
      turns = λ i other lt.
          elim (cases_eq w i) [
            | inl e ↦ subst (λ k. (slice_index_or (slice_set workers w next) k other).turns.items ≡ []) e (ap (λ (worker : Worker). worker.turns.items) (get_or-set_same workers w next other here) ∙ c.clear.ensures.items)
            | inr ne ↦ ap (λ (worker : Worker). worker.turns.items) (get_or-set_other workers w i next other (λ e. ne (sym e))) ∙ inv.turns i other (omega (arith, lt, ne))
          ];
    }
