use Rattle.std.proofs.Common.{◌∙◌, ap, arith}
use Rattle.bit_planes.specs.PartitionSet.{partitions_of, is_in}
use Rattle.bit_planes.proofs.Seen.{seen_full, full_clear}
use Rattle.bit_planes.proofs.Sets.{in_full_all, partitions_full}
use Rattle.bit_planes.proofs.plane.Plane.full.Goals as goal

pub invariant_of-result : goal.invariant_of-result
invariant_of-result c = record { some = c.requires.0; few = c.requires.1; clear = full_clear c.args.partitions _ c.fill_below.ensures.len c.fill_below.ensures.bits }

pub returns : goal.returns
returns c =
    let e = seen_full c.args.partitions _ (λ q lt. c.fill_below.ensures.bits q (omega arith)) in record {
      value = e;
      elements = λ q. ap (λ s. is_in s q) e ∙ in_full_all c.args.partitions q;
      partitions = ap partitions_of e ∙ partitions_full c.args.partitions;
    }
