use Rattle.std.proofs.Common.{◌∙◌, false, true, refl, arith, ap, replicate}
use Rattle.std.proofs.lemmas.List.{length-replicate}
use Rattle.bit_planes.specs.PartitionSet.{partitions_of, is_in}
use Rattle.cluster_tests.proofs.reference_plane.Flags.{marked_none, marked_one, none_at, seen_full}
use Rattle.bit_planes.proofs.Sets.{in_full_all, partitions_full}
use Rattle.cluster_tests.proofs.reference_plane.ReferencePlane.full.Goals as goal

pub loop-q-init : goal.loop-q-init
loop-q-init c = marked_none (replicate 4096 false) (λ q. true) (length-replicate 4096 false)

pub loop-q-preserved : goal.loop-q-preserved
loop-q-preserved c = marked_one (replicate 4096 false) (λ q. true) c.loop-q.q c.loop-q.flags true (omega (arith, c.requires, c.loop-q-test.true)) refl c.loop-q.invariant

pub invariant_of-result : goal.invariant_of-result
invariant_of-result c = record {
  some = c.requires.0;
  few = c.requires.1;
  clear = λ q le lt. let end = c.loop-q.auto.q-end in c.loop-q.invariant.left q (omega arith) ∙ none_at q lt;
}

pub returns : goal.returns
returns c =
    let e = seen_full c.args.partitions c.loop-q.q (replicate 4096 false) c.loop-q.flags c.requires.1 c.loop-q-test.false c.loop-q.invariant in record {
      value = e;
      elements = λ q. ap (λ s. is_in s q) e ∙ in_full_all c.args.partitions q;
      partitions = ap partitions_of e ∙ partitions_full c.args.partitions;
    }
