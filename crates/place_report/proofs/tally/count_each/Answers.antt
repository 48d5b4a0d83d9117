use Rattle.std.proofs.Common.{◌≡◌, ◌∙◌, ◌+◌, ◌<◌, ◌≤◌, ℕ, List, length, map, take, get_or, slice_index_or, slice_set, sym, ap, refl, subst, arith}
use Rattle.std.specs.Prelude.{All}
use Rattle.std.proofs.Math.ListN.{length-set}
use Rattle.std.proofs.lemmas.List.Elements.{All-take}
use Rattle.key_index.specs.Keys.{IsWithoutRepeats, Key, distinct, key_at}
use Rattle.keyed_table.specs.Counts.{plain}
use Rattle.place_report.specs.Private.Tallies.{AreCountsOf}
use Rattle.place_report.proofs.Tallied.{known_key, new_key, one_more}
use Rattle.place_report.proofs.tally.count_each.Goals as goal
use Rattle.place_report.proofs.tally.count_each.Goals.{then-counters-id-eq0, else-counters-id-eq0}

pub loop-i-init : goal.loop-i-init
unfolding distinct
loop-i-init c = record {
  counters = c.requires.zeros;
  len = refl;
  bound = omega arith;
  value = λ keys without_repeats long. refl;
}

pub loop-i-preserved : goal.loop-i-preserved
loop-i-preserved c =
    let ids = c.args.ids.now in
    let i = c.loop-i.i in
    let id = get_or ids i 0 in
    let counters = c.loop-i.counters in
    let before = c.loop-i.invariant in
    let lt : i < length ids = omega arith in
    let within : id < length counters = omega (arith, c.requires.numbers i 0 lt, before.len) in
    let counted : get_or counters id 0 ≡ plain (take i ids) id = before.counters id within in
    let long = length-set counters id (get_or counters id 0 + 1) in
    record {
      counters = one_more ids counters i (get_or counters id 0 + 1) lt within refl before.counters;
      len = long ∙ before.len;
      bound = elim c.if-counters-id-eq0.branch [
        | then-counters-id-eq0 w ↦ omega (arith, w.different-is, before.bound)
        | else-counters-id-eq0 w ↦ omega (arith, w.different-is, before.bound)
      ];
      value = λ keys without_repeats many.
          let many_before : length keys ≡ length counters = many ∙ long in
          let below : All (λ n. n < length keys) (take i ids) =
          All-take (λ n. n < length keys) i ids (λ k d k_in. omega (arith, c.requires.numbers k d k_in, before.len, many_before)) in
          let so_far = before.value keys without_repeats many_before in
          let in_keys : id < length keys = omega (arith, within, many_before) in
          elim c.if-counters-id-eq0.branch [
            | then-counters-id-eq0 w ↦
                let none : plain (take i ids) id ≡ 0 = omega (arith, counted, w.if-counters-id-eq0) in
                omega (arith, w.different-is, so_far, new_key keys without_repeats ids i below in_keys lt none)
            | else-counters-id-eq0 w ↦
                let some : 0 < plain (take i ids) id = omega (arith, counted, w.if-counters-id-eq0) in
                omega (arith, w.different-is, so_far, known_key keys without_repeats ids i below in_keys lt some)
          ];
    }
