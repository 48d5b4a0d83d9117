use Rattle.std.proofs.Common.{◌∙◌, ap, refl, arith}
use Rattle.bit_planes.specs.PartitionSet.{partitions_of, is_in}
use Rattle.cluster_tests.proofs.reference_plane.Flags.{below_is, seen_without, without_past}
use Rattle.bit_planes.proofs.Sets.{in_without, partitions_without}
use Rattle.cluster_tests.proofs.reference_plane.ReferencePlane.remove.Goals as goal

pub returns-then-q-self : goal.returns-then-q-self
returns-then-q-self c =
    let e = seen_without _ _ _ c.args.q c.self.invariant.few c.self.told c.self.view_is c.if-q-self.true in
    record {
      value = e;
      elements = λ n. ap (λ s. is_in s n) e ∙ in_without c.args.self.now c.args.q n;
      partitions = ap partitions_of e ∙ partitions_without c.args.self.now c.args.q;
    }

pub returns-else-q-self : goal.returns-else-q-self
returns-else-q-self c =
    let p = below_is _ _ _ c.self.invariant.few c.self.told c.self.view_is in
    let e = without_past c.args.self.now c.args.q (omega (arith, p, c.if-q-self.false)) in
    record {
      value = e;
      elements = λ n. ap (λ s. is_in s n) e ∙ in_without c.args.self.now c.args.q n;
      partitions = refl;
    }
