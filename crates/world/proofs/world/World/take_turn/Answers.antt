use Rattle.std.proofs.Common.{rules, ◌≡◌, ◌∙◌, Err}
use Rattle.world.specs.Settling.{rejoin_if_due, sync_if_new}
use Rattle.world.proofs.Following.{chain_on, chain_stops, scene, sync_course, turn_is, unseen, watch}
use Rattle.world.proofs.Preserved.{IsOfTurn, SamePresent, preserved_following, preserves_present, sync_events}
use Rattle.world.proofs.NextSteps.{has_synced_after}
use Rattle.world.proofs.world.World.take_turn.Goals as goal

pub returns-in_err-sync_if_new : goal.returns-in_err-sync_if_new
returns-in_err-sync_if_new g c =
    let k = watch g.O.Observer.Sees g.met.O.Observer.sees_nothing g.met.O.Observer.sees_more in
    let same : c.from_residual.result ≡ Err c.in_err-sync_if_new.field-0.0 = search rules in
    let w = c.args.self.now in
    let m = c.args.member in
    let s = scene w c.args.observer.now in
    let mid = scene c.sync_if_new.new.self c.sync_if_new.new.observer in
    turn_is k m s c.from_residual.result mid
    (chain_stops k s mid (sync_if_new m w) (rejoin_if_due m) c.sync_if_new.result c.from_residual.result c.in_err-sync_if_new.field-0.0 (sync_course m w) c.sync_if_new.ensures c.in_err-sync_if_new.was same)

pub rejoin_if_due-requires-clause-present : goal.rejoin_if_due-requires-clause-present
rejoin_if_due-requires-clause-present g c =
    let k = watch g.O.Observer.Sees g.met.O.Observer.sees_nothing g.met.O.Observer.sees_more in
    let w = c.args.self.now in
    let m = c.args.member in
    let mid = c.sync_if_new.new.self in
    let follows = unseen k (w, c.args.observer.now) (mid, c.sync_if_new.new.observer) (sync_if_new m w) c.sync_if_new.result c.sync_if_new.ensures in
    preserved_following IsOfTurn SamePresent preserves_present w mid (sync_if_new m w) c.sync_if_new.result (sync_course m w) (sync_events m w) follows m ∙ c.requires

pub rejoin_if_due-requires-clause-state : goal.rejoin_if_due-requires-clause-state
rejoin_if_due-requires-clause-state g c =
    let k = watch g.O.Observer.Sees g.met.O.Observer.sees_nothing g.met.O.Observer.sees_more in
    let w = c.args.self.now in
    let m = c.args.member in
    let mid = c.sync_if_new.new.self in
    let follows = unseen k (w, c.args.observer.now) (mid, c.sync_if_new.new.observer) (sync_if_new m w) c.sync_if_new.result c.sync_if_new.ensures in
    has_synced_after m w mid c.sync_if_new.result c.requires follows c.in_ok-sync_if_new.was

pub returns : goal.returns
returns g c =
    let k = watch g.O.Observer.Sees g.met.O.Observer.sees_nothing g.met.O.Observer.sees_more in
    let w = c.args.self.now in
    let m = c.args.member in
    let s = scene w c.args.observer.now in
    let mid = scene c.sync_if_new.new.self c.sync_if_new.new.observer in
    let far = scene c.rejoin_if_due.new.self c.rejoin_if_due.new.observer in
    turn_is k m s c.rejoin_if_due.result far
    (chain_on k s mid (sync_if_new m w) (rejoin_if_due m) c.sync_if_new.result (sync_course m w) c.sync_if_new.ensures c.in_ok-sync_if_new.was c.rejoin_if_due.result far c.rejoin_if_due.ensures)
