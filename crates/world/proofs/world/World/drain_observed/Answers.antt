use Rattle.std.proofs.Common.{rules, ◌≡◌, ◌∙◌, true, Err, sym, ap}
use Rattle.commit_store.specs.Commits.{AreEndsCommitted}
use Rattle.world.specs.Draining.{drain_members}
use Rattle.world.specs.Settling.{settling}
use Rattle.world.proofs.Following.{chain_on, chain_stops, drain_members_course, draining_is, scene, settling_course, unseen, watch}
use Rattle.group_laws.specs.Rounds.{without_flags, rebalance_result}
use Rattle.group_machine.specs.Settled.{is_settled}
use Rattle.world.proofs.Answered.{drain_members_never}
use Rattle.world.proofs.Drained.{drained_committed}
use Rattle.world.proofs.Preserved.{drained_leaves, valid_following}
use Rattle.world.proofs.Settled.{settled_and_synced_is_settled, if_ok, never_unsettled, on_ok}
use Rattle.world.proofs.world.World.drain_observed.Goals as goal

pub returns-in_err-settle_observed-clause-step : goal.returns-in_err-settle_observed-clause-step
returns-in_err-settle_observed-clause-step g c =
    let k = watch g.O.Observer.Sees g.met.O.Observer.sees_nothing g.met.O.Observer.sees_more in
    let same : c.from_residual.result ≡ Err c.in_err-settle_observed.field-0.0 = search rules in
    let w = c.args.self.now in
    let s = scene w c.args.observer.now in
    let mid = scene c.settle_observed.new.self c.settle_observed.new.observer in
    draining_is k c.args.batch s c.from_residual.result mid
    (chain_stops k s mid (settling w) (drain_members c.args.batch) c.settle_observed.result c.from_residual.result c.in_err-settle_observed.field-0.0 (settling_course w) c.settle_observed.ensures.step c.in_err-settle_observed.was same)

pub returns-clause-step : goal.returns-clause-step
returns-clause-step g c =
    let k = watch g.O.Observer.Sees g.met.O.Observer.sees_nothing g.met.O.Observer.sees_more in
    let w = c.args.self.now in
    let s = scene w c.args.observer.now in
    let mid = scene c.settle_observed.new.self c.settle_observed.new.observer in
    let far = scene c.drain_members.new.self c.drain_members.new.observer in
    draining_is k c.args.batch s c.drain_members.result far
    (chain_on k s mid (settling w) (drain_members c.args.batch) c.settle_observed.result (settling_course w) c.settle_observed.ensures.step c.in_ok-settle_observed.was c.drain_members.result far c.drain_members.ensures)

pub returns-clause-valid : goal.returns-clause-valid
returns-clause-valid g c =
    let k = watch g.O.Observer.Sees g.met.O.Observer.sees_nothing g.met.O.Observer.sees_more in
    let w = c.settle_observed.new.self in
    let w2 = c.drain_members.new.self in
    let follows = unseen k (w, c.settle_observed.new.observer) (w2, c.drain_members.new.observer) (drain_members c.args.batch w) c.drain_members.result c.drain_members.ensures in
    valid_following w w2 (drain_members c.args.batch w) c.drain_members.result (drain_members_course c.args.batch w) follows c.settle_observed.ensures.valid

pub returns-in_err-settle_observed-clause-kind : goal.returns-in_err-settle_observed-clause-kind
returns-in_err-settle_observed-clause-kind g c =
    let same : c.from_residual.result ≡ Err c.in_err-settle_observed.field-0.0 = search rules in
    λ e. c.settle_observed.ensures.kind (c.in_err-settle_observed.was ∙ sym same ∙ e)

pub returns-clause-kind : goal.returns-clause-kind
returns-clause-kind g c =
    let k = watch g.O.Observer.Sees g.met.O.Observer.sees_nothing g.met.O.Observer.sees_more in
    let w = c.settle_observed.new.self in
    let w2 = c.drain_members.new.self in
    let follows = unseen k (w, c.settle_observed.new.observer) (w2, c.drain_members.new.observer) (drain_members c.args.batch w) c.drain_members.result c.drain_members.ensures in
    never_unsettled w w2 (drain_members c.args.batch w) c.drain_members.result (drain_members_never c.args.batch w) follows

pub returns-clause-end : goal.returns-clause-end
returns-clause-end g c =
    let k = watch g.O.Observer.Sees g.met.O.Observer.sees_nothing g.met.O.Observer.sees_more in
    let w = c.settle_observed.new.self in
    let w2 = c.drain_members.new.self in
    let follows = unseen k (w, c.settle_observed.new.observer) (w2, c.drain_members.new.observer) (drain_members c.args.batch w) c.drain_members.result c.drain_members.ensures in
    let same = (drained_leaves c.args.batch w w2 c.drain_members.result follows).group in
    let end = if_ok c.settle_observed.result _ c.in_ok-settle_observed.was c.settle_observed.ensures.end in
    on_ok (without_flags w2.cluster.group ≡ rebalance_result c.args.self.now.cluster.group) c.drain_members.result (λ ok. ap without_flags same ∙ end)

pub returns-clause-settled : goal.returns-clause-settled
returns-clause-settled g c =
    let k = watch g.O.Observer.Sees g.met.O.Observer.sees_nothing g.met.O.Observer.sees_more in
    let w = c.settle_observed.new.self in
    let w2 = c.drain_members.new.self in
    let follows = unseen k (w, c.settle_observed.new.observer) (w2, c.drain_members.new.observer) (drain_members c.args.batch w) c.drain_members.result c.drain_members.ensures in
    let same = (drained_leaves c.args.batch w w2 c.drain_members.result follows).group in
    let settled_and_synced = if_ok c.settle_observed.result _ c.in_ok-settle_observed.was c.settle_observed.ensures.settled in
    on_ok (is_settled w2.cluster.group ≡ true) c.drain_members.result (λ ok. ap is_settled same ∙ settled_and_synced_is_settled w.cluster.group settled_and_synced)

pub returns-clause-committed : goal.returns-clause-committed
returns-clause-committed g c =
    let k = watch g.O.Observer.Sees g.met.O.Observer.sees_nothing g.met.O.Observer.sees_more in
    let w = c.settle_observed.new.self in
    let w2 = c.drain_members.new.self in
    let follows = unseen k (w, c.settle_observed.new.observer) (w2, c.drain_members.new.observer) (drain_members c.args.batch w) c.drain_members.result c.drain_members.ensures in
    let settled_and_synced = if_ok c.settle_observed.result _ c.in_ok-settle_observed.was c.settle_observed.ensures.settled in
    on_ok (AreEndsCommitted w2.cluster.store w2.cluster.logs) c.drain_members.result
    (λ ok. drained_committed c.args.batch w w2 c.drain_members.result c.requires c.settle_observed.ensures.valid settled_and_synced follows ok)
