use Rattle.std.proofs.Common.{rules, ◌≡◌, ◌∙◌, Err, ap, length, subst, sym}
use Rattle.world.specs.declared.event.Event.TheVariants as event
use Rattle.world.specs.Courses.{happens}
use Rattle.world.proofs.Following.{Follow, chain_on, chain_stops, happens_course, nothing_pending, scene, something_pending, watch}
use Rattle.world.proofs.world.World.commit_pending.Goals as goal

pub returns-then-not-is_pending : goal.returns-then-not-is_pending
returns-then-not-is_pending g c =
    let k = watch g.O.Observer.Sees g.met.O.Observer.sees_nothing g.met.O.Observer.sees_more in
    nothing_pending k c.args.member c.args.p (c.args.self.now, c.args.observer.now) (sym c.is_pending.ensures ∙ c.if-not-is_pending.true)

pub returns-in_err-attempt : goal.returns-in_err-attempt
returns-in_err-attempt g c =
    let k = watch g.O.Observer.Sees g.met.O.Observer.sees_nothing g.met.O.Observer.sees_more in
    let same : c.from_residual.result ≡ Err c.in_err-attempt.field-0.0 = search rules in
    let w = c.args.self.now in
    let s = scene w c.args.observer.now in
    let mid = scene c.attempt.new.self c.attempt.new.observer in
    let send = event.Send c.args.member c.args.p in
    something_pending k c.args.member c.args.p s (sym c.is_pending.ensures ∙ c.if-not-is_pending.false) c.from_residual.result mid
    (chain_stops k s mid (happens send w) (λ sent. happens (event.Deliver (length sent.mail)) sent) c.attempt.result c.from_residual.result c.in_err-attempt.field-0.0 (happens_course send w) c.attempt.ensures c.in_err-attempt.was same)

pub returns : goal.returns
returns g c =
    let k = watch g.O.Observer.Sees g.met.O.Observer.sees_nothing g.met.O.Observer.sees_more in
    let w = c.args.self.now in
    let s = scene w c.args.observer.now in
    let mid = scene c.attempt.new.self c.attempt.new.observer in
    let far = scene c.attempt-2.new.self c.attempt-2.new.observer in
    let send = event.Send c.args.member c.args.p in
    let delivered = subst (λ n. Follow g.O.Observer.Sees mid (happens (event.Deliver n) c.attempt.new.self) c.attempt-2.result far) (ap length c.mail.ensures.mail) c.attempt-2.ensures in
    something_pending k c.args.member c.args.p s (sym c.is_pending.ensures ∙ c.if-not-is_pending.false) c.attempt-2.result far
    (chain_on k s mid (happens send w) (λ sent. happens (event.Deliver (length sent.mail)) sent) c.attempt.result (happens_course send w) c.attempt.ensures c.in_ok-attempt.was c.attempt-2.result far delivered)
