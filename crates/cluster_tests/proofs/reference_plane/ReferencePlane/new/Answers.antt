use Rattle.std.proofs.Common.{◌∙◌, ap}
use Rattle.bit_planes.specs.PartitionSet.{partitions_of, is_in}
use Rattle.cluster_tests.proofs.reference_plane.Flags.{none_at, seen_empty}
use Rattle.bit_planes.proofs.Sets.{in_empty, partitions_empty}
use Rattle.cluster_tests.proofs.reference_plane.ReferencePlane.new.Goals as goal

pub invariant_of-result : goal.invariant_of-result
invariant_of-result c = record { some = c.requires.0; few = c.requires.1; clear = λ q le lt. none_at q lt }

pub returns : goal.returns
returns c =
    let e = seen_empty c.args.partitions c.requires.1 in record {
      value = e;
      elements = λ q. ap (λ s. is_in s q) e ∙ in_empty c.args.partitions q;
      partitions = ap partitions_of e ∙ partitions_empty c.args.partitions;
    }
