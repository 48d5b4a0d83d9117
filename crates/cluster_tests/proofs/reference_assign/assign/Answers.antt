use Rattle.std.proofs.Common.{◌≡◌}
use Rattle.std.proofs.lemmas.Result.{IfOk-weaker}
use Rattle.sticky_assignor.specs.Assigned.{assigned}
use Rattle.sticky_assignor.proofs.AssignedLaws.{quotas_long, is_assigned}
use Rattle.cluster_tests.proofs.reference_assign.assign.Goals as goal

pub free_partitions-free-requires-clause-len : goal.free_partitions-free-requires-clause-len
free_partitions-free-requires-clause-len c = quotas_long _ _ _ _ _ c.in_ok-quotas.ensures c.deref.ensures.value

pub fill-requires-clause-len : goal.fill-requires-clause-len
fill-requires-clause-len c = quotas_long _ _ _ _ _ c.in_ok-quotas.ensures c.deref-2.ensures.value

pub returns : goal.returns
returns c =
    IfOk-weaker c.fill.result _ (λ rows. rows ≡ assigned c.args.partitions c.args.members.now c.args.owned.now) (λ rows e. is_assigned _ _ _ _ _ _ _ _ c.requires.partitions c.in_ok-quotas.ensures c.deref.ensures.value c.deref-2.ensures.value c.free_partitions-free.ensures.free e) c.fill.ensures
