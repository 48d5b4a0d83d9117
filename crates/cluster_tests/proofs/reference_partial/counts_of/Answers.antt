use Rattle.std.proofs.Common.{◌∙◌}
use Rattle.cluster_tests.proofs.reference_partial.counts_of.Goals as goal

pub returns : goal.returns
returns c = (λ x. c.in_ok-map_of.ensures.0 x ∙ c.in_ok-runs.ensures x, c.in_ok-map_of.ensures.1)
