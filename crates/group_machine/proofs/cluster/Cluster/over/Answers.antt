use Rattle.std.proofs.Common.{◌∙◌, ap, replicate, ℕ}
use Rattle.group_machine.specs.State.{opening}
use Rattle.group_machine.specs.Private.GroupView.{group_view}
use Rattle.group_machine.proofs.ClusterLemmas.{over-consistent}
use Rattle.group_machine.proofs.cluster.Cluster.over.Goals as goal

pub invariant_of-result : goal.invariant_of-result
invariant_of-result c =
    let many = c.partitions-partitions.ensures.count in
    let store = c.in_ok-store.ensures in
    over-consistent (group_view c.in_ok-group.group) c.args.logs c.in_ok-store.store (c.in_ok-group.ensures.state ∙ ap opening many) c.partitions-partitions.ensures.valid (store.partitions ∙ many) (store.counts ∙ ap (λ n. replicate {A = ℕ} n 0) c.keys.ensures) (store.valid c.args.logs)

pub returns-clause-valid : goal.returns-clause-valid
returns-clause-valid c = invariant_of-result c
