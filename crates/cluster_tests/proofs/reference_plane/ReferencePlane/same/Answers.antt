use Rattle.std.proofs.Common.{rules, tests, not}
use Rattle.bit_planes.proofs.Sets.{any_below_of_match, same_of_any, same_iff, differ}
use Rattle.cluster_tests.proofs.reference_plane.ReferencePlane.same.Goals as goal

pub returns-clause-value : goal.returns-clause-value
returns-clause-value c = same_of_any c.args.self.now c.args.other.now c.some_pass.result c.requires (any_below_of_match (λ x y. differ x y) c.args.self.now c.args.other.now c.some_pass.result _ _ c.some_pass.ensures (λ at. (at.0, at.1, let bit_is = at.2 in search (rules, tests))) (λ none q lt. let bit_is = none q lt in search (rules, tests)))

pub returns-clause-iff : goal.returns-clause-iff
returns-clause-iff c = same_iff c.args.self.now c.args.other.now (not c.some_pass.result) (returns-clause-value c)
