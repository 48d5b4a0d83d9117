use Rattle.std.proofs.Common.{rules, ◌≡◌, ◌∙◌, true, inl, inr}
use Rattle.group_machine.specs.declared.group.Phase.TheVariants as phase
use Rattle.group_laws.specs.Passes.{is_settled_and_synced}
use Rattle.group_laws.specs.Rounds.{without_flags, rebalance_result}
use Rattle.world.proofs.Following.{nobody_settles, passes_course, scene, somebody_settles, unseen, watch}
use Rattle.world.proofs.Settled.{never_unsettled, on_ok, settled_by, settling_never, somebody}
use Rattle.world.proofs.Preserved.{valid_following}
use Rattle.world.specs.Settling.{passes, settling}
use Rattle.world.proofs.world.World.settle_observed.Goals as goal

pub returns-in-Empty-clause-step : goal.returns-in-Empty-clause-step
returns-in-Empty-clause-step g c =
    let k = watch g.O.Observer.Sees g.met.O.Observer.sees_nothing g.met.O.Observer.sees_more in
    let w = c.args.self.now in
    let empty : w.cluster.group.phase ≡ phase.Empty = search rules in
    nobody_settles k (w, c.args.observer.now) (c.cluster.ensures.valid.cluster.group.empty.0 empty)

pub returns-in-Preparing : goal.returns-in-Preparing
returns-in-Preparing g c =
    let k = watch g.O.Observer.Sees g.met.O.Observer.sees_nothing g.met.O.Observer.sees_more in
    let w = c.args.self.now in
    let s = scene w c.args.observer.now in
    let at : w.cluster.group.phase ≡ c.phase.result = search rules in
    let v = c.cluster.ensures.valid in
    let result = c.make_passes.result in
    let w2 = c.make_passes.new.self in
    let s2 = scene w2 c.make_passes.new.observer in
    let step = somebody_settles k s (somebody w.cluster.group v.cluster.group (elim c.in-Preparing.is [ inl p ↦ inl (at ∙ p) | inr p ↦ inr (at ∙ p) ])) result s2 c.make_passes.ensures in
    let follows = unseen k s s2 (settling w) result step in
    record {
      step = step;
      kind = never_unsettled w w2 (settling w) result (settling_never w v) follows;
      settled = on_ok (is_settled_and_synced w2.cluster.group ≡ true) result (λ ok. (settled_by w w2 result v follows ok).settled_and_synced);
      end = on_ok (without_flags w2.cluster.group ≡ rebalance_result w.cluster.group) result (λ ok. (settled_by w w2 result v follows ok).end);
      valid = valid_following w w2 (passes 4 w) result (passes_course 4 w) (unseen k s s2 (passes 4 w) result c.make_passes.ensures) v;
    }
