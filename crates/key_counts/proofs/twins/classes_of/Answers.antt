use Rattle.std.proofs.Common.{◌≡◌, ◌∙◌, ◌+◌, List, ap, arith, drop, get_or, inl, inr, length, subst, sym, ℕ}
use Rattle.std.specs.Prelude.{◌%◌, All, Contains}
use Rattle.std.proofs.lemmas.Bool.{cases_eq}
use Rattle.std.proofs.lemmas.List.{with_items_is}
use Rattle.std.proofs.lemmas.List.Elements.{All-contains, All-same}
use Rattle.key_index.specs.Keys.{key_at}
use Rattle.key_counts.specs.Private.Filter.{part_of}
use Rattle.key_counts.specs.Private.Hashes.{hash_at, placed_at, placed_in}
use Rattle.key_counts.specs.Private.Twins.{AreWritten, class_at, class_of}
use Rattle.key_counts.specs.declared.hashes.Placed.{Placed}
use Rattle.key_counts.specs.declared.twins.TheConstants.{CLASSES}
use Rattle.key_counts.proofs.KeyClasses.{classes-read}
use Rattle.key_counts.proofs.Placed.{placed-has}
use Rattle.key_counts.proofs.twins.classes_of.Goals as goal

pub loop-part-preserved : goal.loop-part-preserved
loop-part-preserved c =
    let filter = c.args.filter.now in
    let count = c.args.entries in
    let part = c.loop-part.part in
    let inv = c.loop-part.invariant in
    let old = c.deref_mut.result.now in
    let new = c.write_classes.new.classes in
    let list = c.list_in.result.now in
    let marks = c.marks_in.result.now in
    let same = with_items_is c.loop-part.classes new (c.write_classes.auto.classes ∙ c.deref_mut.ensures.len) in
    let len : length new ≡ count = c.write_classes.auto.classes ∙ ap length c.deref_mut.ensures.value ∙ inv.len in
    record {
      len = ap length same ∙ len;
      each = λ skip entries placed code lt below.
          let hash = hash_at filter.place.hasher skip entries code in
          let right : ℕ → ℕ = λ k. class_of filter (drop skip (key_at entries.keys k)) in
          let is : list ≡ placed_in filter.place skip entries count part = c.list_in.ensures ∙ placed.each part c.loop-part-test.true in
          let read : All (λ e. class_at (1 + part % CLASSES) marks e.cell ≡ right e.code) list =
          All-same (λ (e : Placed). class_at (1 + part % CLASSES) marks e.cell ≡ right e.code) list (placed_in filter.place skip entries count part) is
          (subst (λ (bytes : List ℕ). All (λ (e : Placed). class_at (1 + part % CLASSES) bytes e.cell ≡ right e.code) (placed_in filter.place skip entries count part)) (sym c.marks_in.ensures) (classes-read filter skip entries count part)) in
          let written : AreWritten right list old new = c.write_classes.ensures right read in
          let here : get_or new code 0 ≡ right code = elim (cases_eq (part_of hash) part) [
            | inl e ↦
                All-contains (λ (e : Placed). get_or new e.code 0 ≡ right e.code) list (placed_at filter.place skip entries code) written.written
                (subst (λ (es : List Placed). Contains es (placed_at filter.place skip entries code)) (sym is) (placed-has filter.place skip entries count part code lt e))
            | inr ne ↦ written.same code (ap (λ cs. get_or cs code 0) c.deref_mut.ensures.value ∙ inv.each skip entries placed code lt (omega (arith, below, ne)))
          ] in
          subst (λ (cs : List ℕ). get_or cs code 0 ≡ right code) (sym same) here;
    }
