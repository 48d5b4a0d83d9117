use Rattle.std.proofs.Common.{◌∙◌, ap, refl, arith}
use Rattle.bit_planes.specs.PartitionSet.{partitions_of, is_in}
use Rattle.bit_planes.proofs.Seen.{below_is, marks_are, seen_without, without_clear, without_past}
use Rattle.bit_planes.proofs.Sets.{in_without, partitions_without}
use Rattle.bit_planes.proofs.plane.Plane.remove.Goals as goal

pub clear-requires : goal.clear-requires
clear-requires c = omega (arith, c.if-q-self.true, c.self.invariant.few, c.self.told)

pub invariant_of-self : goal.invariant_of-self
invariant_of-self c = record {
  some = c.self.invariant.some;
  few = c.self.invariant.few;
  clear = without_clear _ _ _ c.args.q c.self.invariant.clear c.clear.ensures.bits;
}

pub returns-then-q-self : goal.returns-then-q-self
returns-then-q-self c =
    let marks = marks_are _ _ _ c.self.invariant.clear c.self.view_is in
    let e = seen_without _ _ _ c.args.self.now c.args.q c.self.view_is marks c.clear.ensures.bits in
    record {
      value = e;
      elements = λ n. ap (λ s. is_in s n) e ∙ in_without c.args.self.now c.args.q n;
      partitions = ap partitions_of e ∙ partitions_without c.args.self.now c.args.q;
    }

pub returns-else-q-self : goal.returns-else-q-self
returns-else-q-self c =
    let p = below_is _ _ _ c.self.view_is in
    let e = without_past c.args.self.now c.args.q (omega (arith, p, c.if-q-self.false)) in
    record {
      value = e;
      elements = λ n. ap (λ s. is_in s n) e ∙ in_without c.args.self.now c.args.q n;
      partitions = refl;
    }
