use Rattle.std.proofs.Common.{rules, ℕ, ◌≡◌, ◌<◌, ◌∙◌, ◌||◌, ap}
use Rattle.bit_planes.specs.PartitionSet.{partitions_of, is_in}
use Rattle.bit_planes.proofs.Sets.{in_union, union_of_elements}
use Rattle.cluster_tests.proofs.reference_plane.ReferencePlane.union.Goals as goal

pub returns-clause-value : goal.returns-clause-value
returns-clause-value c =
    let each : (q : ℕ) → q < partitions_of c.args.self.now → is_in c.combined.result q ≡ (is_in c.args.self.now q || is_in c.args.other.now q) = λ q lt. let bit_is = c.combined.ensures.elements q lt in search rules in
    union_of_elements c.args.self.now c.args.other.now c.combined.result c.requires c.combined.ensures.partitions each

pub returns-clause-elements : goal.returns-clause-elements
returns-clause-elements c = λ q. ap (λ s. is_in s q) (returns-clause-value c) ∙ in_union c.args.self.now c.args.other.now q c.requires
