use Rattle.std.proofs.Common.{◌-◌, ◌∙◌, ℕ, get_or, refl, ap, sym, arith}
use Rattle.std.proofs.lemmas.List.{get_or_default}
use Rattle.bit_planes.specs.PartitionSet.{size, lowest}
use Rattle.sticky_assignor.specs.Private.Filling.{given_of}
use Rattle.sticky_assignor.proofs.Steps.{size_at, fill_step}
use Rattle.sticky_assignor.proofs.fill.Goals as goal

pub filled_row-row-requires-clause-counts : goal.filled_row-row-requires-clause-counts
filled_row-row-requires-clause-counts c = size_at c.args.owned.now c.args.counts.now c.args.members.now c.loop-i.i c.requires.counts c.loop-i-test.true ∙ ap size (sym c.row_of.ensures.value)

pub loop-i-preserved : goal.loop-i-preserved
loop-i-preserved c =
    let i = c.loop-i.i in
    let ms = c.args.members.now in
    let qs = c.args.quotas.now in
    let m : ℕ = get_or ms i 0 in
    let n : ℕ = get_or qs i 0 in
    let own = c.row_of.result.now in
    let free = c.loop-i.free in
    let step = fill_step c.args.owned.now c.loop-i.rows c.put.new.self ms qs i m n (size (lowest n own)) (n - size (lowest n own)) free own (lowest n own) (given_of n own free) c.filled_row-row.result c.filled_row-row.new.free c.requires.sorted c.loop-i-test.true (omega (arith, c.requires.len, c.loop-i-test.true))
    (get_or_default ms i 0 m c.loop-i-test.true) (get_or_default qs i 0 n (omega (arith, c.requires.len, c.loop-i-test.true))) c.row_of.ensures.value refl refl refl refl c.filled_row-row.ensures.row c.filled_row-row.ensures.free c.in_ok-put.ensures.value c.loop-i.invariant.numbers in
    record {
      below = step.0 ∙ c.loop-i.invariant.below;
      free_below = c.filled_row-row.ensures.free_partitions ∙ c.loop-i.invariant.free_below;
      numbers = step.1;
      so_far = step.2 ∙ c.loop-i.invariant.so_far;
    }
