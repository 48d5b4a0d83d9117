use Rattle.std.proofs.Common.{◌≢◌, ◌∙◌, ap, true, false, arith}
use Rattle.std.proofs.lemmas.List.{get_or-set_other}
use Rattle.bit_planes.specs.PartitionSet.{partitions_of, is_in}
use Rattle.cluster_tests.proofs.reference_plane.Flags.{below_is, seen_with}
use Rattle.bit_planes.proofs.Sets.{in_with, partitions_with}
use Rattle.cluster_tests.proofs.reference_plane.ReferencePlane.insert.Goals as goal

pub bounds-self-inside-q : goal.bounds-self-inside-q
bounds-self-inside-q c =
    let p = below_is _ _ _ c.self.invariant.few c.self.told c.self.view_is in
    omega (arith, p, c.requires, c.self.invariant.few)

pub invariant_of-self : goal.invariant_of-self
invariant_of-self c =
    let p = below_is _ _ _ c.self.invariant.few c.self.told c.self.view_is in
    record {
      some = c.self.invariant.some;
      few = c.self.invariant.few;
      clear = λ q le lt. let other : q ≢ c.args.q = omega (arith, p, c.requires, le) in get_or-set_other c.self.inside.flags c.args.q q true false other ∙ c.self.invariant.clear q le lt;
    }

pub returns : goal.returns
returns c =
    let p = below_is _ _ _ c.self.invariant.few c.self.told c.self.view_is in
    let e = seen_with _ _ _ c.args.q c.self.invariant.few c.self.told c.self.view_is (omega (arith, p, c.requires)) in
    record {
      value = e;
      elements = λ n. ap (λ s. is_in s n) e ∙ in_with c.args.self.now c.args.q n c.requires;
      partitions = ap partitions_of e ∙ partitions_with c.args.self.now c.args.q;
    }
