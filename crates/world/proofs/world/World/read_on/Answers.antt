use Rattle.std.proofs.Common.{rules, ◌≡◌, Err}
use Rattle.world.specs.declared.event.Event.TheVariants as event
use Rattle.world.specs.Courses.{happens}
use Rattle.world.specs.Settling.{commit_pending, forgiven}
use Rattle.world.proofs.Following.{chain_on, chain_stops, happens_course, read_on_is, scene, watch}
use Rattle.world.proofs.world.World.read_on.Goals as goal

pub returns-in_err-attempt : goal.returns-in_err-attempt
returns-in_err-attempt g c =
    let k = watch g.O.Observer.Sees g.met.O.Observer.sees_nothing g.met.O.Observer.sees_more in
    let same : c.from_residual.result ≡ Err c.in_err-attempt.field-0.0 = search rules in
    let w = c.args.self.now in
    let s = scene w c.args.observer.now in
    let mid = scene c.attempt.new.self c.attempt.new.observer in
    let poll = event.Poll c.args.member c.args.p c.args.batch in
    read_on_is k c.args.batch c.args.member c.args.p s c.from_residual.result mid
    (chain_stops k s mid (happens poll w) (λ read. forgiven (commit_pending c.args.member c.args.p read)) c.attempt.result c.from_residual.result c.in_err-attempt.field-0.0
    (happens_course poll w) c.attempt.ensures c.in_err-attempt.was same)

pub returns : goal.returns
returns g c =
    let k = watch g.O.Observer.Sees g.met.O.Observer.sees_nothing g.met.O.Observer.sees_more in
    let w = c.args.self.now in
    let s = scene w c.args.observer.now in
    let mid = scene c.attempt.new.self c.attempt.new.observer in
    let far = scene c.commit_or_realign.new.self c.commit_or_realign.new.observer in
    let poll = event.Poll c.args.member c.args.p c.args.batch in
    read_on_is k c.args.batch c.args.member c.args.p s c.commit_or_realign.result far
    (chain_on k s mid (happens poll w) (λ read. forgiven (commit_pending c.args.member c.args.p read)) c.attempt.result
    (happens_course poll w) c.attempt.ensures c.in_ok-attempt.was c.commit_or_realign.result far c.commit_or_realign.ensures)
