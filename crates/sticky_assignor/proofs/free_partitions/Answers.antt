use Rattle.std.proofs.Common.{◌∙◌, ap, sym}
use Rattle.bit_planes.specs.PartitionSet.{size}
use Rattle.sticky_assignor.proofs.Steps.{left_init, size_at}
use Rattle.sticky_assignor.proofs.free_partitions.Goals as goal

pub loop-i-init : goal.loop-i-init
loop-i-init c = record {
  below = c.full-free.ensures.partitions ∙ c.partitions.ensures.value;
  so_far = left_init _ _ _ _ c.full-free.ensures.value c.partitions.ensures.value;
}

pub remove_retained-requires-clause-counts : goal.remove_retained-requires-clause-counts
remove_retained-requires-clause-counts c = size_at c.args.owned.now c.args.counts.now c.args.members.now c.loop-i.i c.requires.counts c.loop-i-test.true ∙ ap size (sym c.row_of.ensures.value)
