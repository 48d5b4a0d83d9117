use Rattle.std.proofs.Common.{rules, ℕ, ◌≡◌, ◌<◌, ◌∙◌, ◌&&◌, not, ap}
use Rattle.bit_planes.specs.PartitionSet.{partitions_of, is_in}
use Rattle.bit_planes.proofs.Sets.{in_minus, minus_of_elements}
use Rattle.cluster_tests.proofs.reference_plane.ReferencePlane.minus.Goals as goal

pub returns-clause-value : goal.returns-clause-value
returns-clause-value c =
    let each : (q : ℕ) → q < partitions_of c.args.self.now → is_in c.combined.result q ≡ (is_in c.args.self.now q && not (is_in c.args.other.now q)) = λ q lt. let bit_is = c.combined.ensures.elements q lt in search rules in
    minus_of_elements c.args.self.now c.args.other.now c.combined.result c.combined.ensures.partitions each

pub returns-clause-elements : goal.returns-clause-elements
returns-clause-elements c = λ q. ap (λ s. is_in s q) (returns-clause-value c) ∙ in_minus c.args.self.now c.args.other.now q
