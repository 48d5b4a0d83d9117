use Rattle.std.proofs.Common.{◌∙◌, ap, arith}
use Rattle.bit_planes.specs.PartitionSet.{partitions_of, is_in}
use Rattle.bit_planes.proofs.Seen.{below_is, marks_are, seen_with, with_clear}
use Rattle.bit_planes.proofs.Sets.{in_with, partitions_with}
use Rattle.bit_planes.proofs.plane.Plane.insert.Goals as goal

pub set-requires : goal.set-requires
set-requires c =
    let p = below_is _ _ _ c.self.view_is in
    omega (arith, p, c.requires, c.self.invariant.few, c.self.told)

pub invariant_of-self : goal.invariant_of-self
invariant_of-self c =
    let p = below_is _ _ _ c.self.view_is in
    record {
      some = c.self.invariant.some;
      few = c.self.invariant.few;
      clear = with_clear _ _ _ c.args.q (omega (arith, p, c.requires)) c.self.invariant.clear c.set.ensures.bits;
    }

pub returns : goal.returns
returns c =
    let marks = marks_are _ _ _ c.self.invariant.clear c.self.view_is in
    let e = seen_with _ _ _ c.args.self.now c.args.q c.self.view_is marks c.set.ensures.bits in
    record {
      value = e;
      elements = λ n. ap (λ s. is_in s n) e ∙ in_with c.args.self.now c.args.q n c.requires;
      partitions = ap partitions_of e ∙ partitions_with c.args.self.now c.args.q;
    }
