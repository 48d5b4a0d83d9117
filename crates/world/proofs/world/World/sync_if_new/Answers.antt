use Rattle.std.proofs.Common.{◌≡◌, subst, sym}
use Rattle.group_machine.specs.Cluster.{ClusterState}
use Rattle.group_machine.specs.NextSteps.{next_step}
use Rattle.group_machine.specs.declared.cluster.next_step.NextStep.TheVariants.{Sync}
use Rattle.world.proofs.Following.{new_syncs, not_new, watch}
use Rattle.world.proofs.NextSteps.{syncs_next, syncs_no_more}
use Rattle.world.proofs.world.World.sync_if_new.Goals as goal

pub returns-in-Sync : goal.returns-in-Sync
returns-in-Sync g c =
    let k = watch g.O.Observer.Sees g.met.O.Observer.sees_nothing g.met.O.Observer.sees_more in
    let w = c.args.self.now in
    let m = c.args.member in
    let step = subst (λ (s : ClusterState). Sync ≡ next_step s.group m) c.cluster.ensures.cluster c.in-Sync.ensures in
    new_syncs k m (w, c.args.observer.now) (syncs_next w.cluster.group m (sym step)) c.attempt.result (c.attempt.new.self, c.attempt.new.observer) c.attempt.ensures

pub returns-in-Rejoin : goal.returns-in-Rejoin
returns-in-Rejoin g c =
    let k = watch g.O.Observer.Sees g.met.O.Observer.sees_nothing g.met.O.Observer.sees_more in
    let w = c.args.self.now in
    let m = c.args.member in
    let step = subst (λ (s : ClusterState). c.next_step.result ≡ next_step s.group m) c.cluster.ensures.cluster c.next_step.ensures in
    not_new k m (w, c.args.observer.now) (syncs_no_more w.cluster.group m c.next_step.result step c.in-Rejoin.is)
