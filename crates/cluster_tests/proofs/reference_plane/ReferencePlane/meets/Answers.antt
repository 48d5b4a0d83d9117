use Rattle.std.proofs.Common.{rules, tests, ◌&&◌}
use Rattle.bit_planes.proofs.Sets.{any_below_of_match, disjoint_elements, meets_of_any}
use Rattle.cluster_tests.proofs.reference_plane.ReferencePlane.meets.Goals as goal

pub returns-clause-value : goal.returns-clause-value
returns-clause-value c = meets_of_any c.args.self.now c.args.other.now c.some_pass.result (any_below_of_match (λ x y. x && y) c.args.self.now c.args.other.now c.some_pass.result _ _ c.some_pass.ensures (λ at. (at.0, at.1, let bit_is = at.2 in search (rules, tests))) (λ none q lt. let bit_is = none q lt in search (rules, tests)))

pub returns-clause-elements : goal.returns-clause-elements
returns-clause-elements c = disjoint_elements c.args.self.now c.args.other.now c.some_pass.result (returns-clause-value c)
