use Rattle.std.proofs.Common.{rules, ◌≡◌, Err, subst}
use Rattle.bit_planes.specs.PartitionSet.{elements, minus}
use Rattle.group_machine.specs.State.{assigned_of, granted_of}
use Rattle.world.specs.declared.event.Event.TheVariants as event
use Rattle.world.specs.Courses.{for_each, happens}
use Rattle.world.specs.Settling.{flush}
use Rattle.world.proofs.Following.{Follow, chain_on, chain_stops, due, flushes_course, not_due, scene, watch}
use Rattle.world.proofs.world.World.rejoin_if_due.Goals as goal

pub returns-in_default : goal.returns-in_default
returns-in_default g c =
    let k = watch g.O.Observer.Sees g.met.O.Observer.sees_nothing g.met.O.Observer.sees_more in
    not_due k c.args.member (c.args.self.now, c.args.observer.now) c.in_default.ensures

pub returns-in_err-flush_all : goal.returns-in_err-flush_all
returns-in_err-flush_all g c =
    let k = watch g.O.Observer.Sees g.met.O.Observer.sees_nothing g.met.O.Observer.sees_more in
    let same : c.from_residual.result ≡ Err c.in_err-flush_all.field-0.0 = search rules in
    let w = c.args.self.now in
    let m = c.args.member in
    let s = scene w c.args.observer.now in
    let mid = scene c.flush_all.new.self c.flush_all.new.observer in
    let given = elements (minus (granted_of w.cluster.group m) (assigned_of w.cluster.group m)) in
    let flushed = subst (λ set. Follow g.O.Observer.Sees s (for_each (elements set) (flush m) w) c.flush_all.result mid) c.in-Some.ensures.given_is c.flush_all.ensures in
    due k m s c.in-Some.ensures.due c.from_residual.result mid
    (chain_stops k s mid (for_each given (flush m) w) (happens (event.Rejoin m)) c.flush_all.result c.from_residual.result c.in_err-flush_all.field-0.0 (flushes_course given m w) flushed c.in_err-flush_all.was same)

pub returns : goal.returns
returns g c =
    let k = watch g.O.Observer.Sees g.met.O.Observer.sees_nothing g.met.O.Observer.sees_more in
    let w = c.args.self.now in
    let m = c.args.member in
    let s = scene w c.args.observer.now in
    let mid = scene c.flush_all.new.self c.flush_all.new.observer in
    let far = scene c.attempt.new.self c.attempt.new.observer in
    let given = elements (minus (granted_of w.cluster.group m) (assigned_of w.cluster.group m)) in
    let flushed = subst (λ set. Follow g.O.Observer.Sees s (for_each (elements set) (flush m) w) c.flush_all.result mid) c.in-Some.ensures.given_is c.flush_all.ensures in
    due k m s c.in-Some.ensures.due c.attempt.result far
    (chain_on k s mid (for_each given (flush m) w) (happens (event.Rejoin m)) c.flush_all.result (flushes_course given m w) flushed c.in_ok-flush_all.was c.attempt.result far c.attempt.ensures)
