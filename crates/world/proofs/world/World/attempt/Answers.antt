use Rattle.std.proofs.Common.{rules, ◌≡◌, Err, [], ◌∷◌, subst, sym}
use Rattle.lane_words.specs.declared.Refusal.TheVariants as r
use Rattle.world.specs.declared.event.Reply.TheVariants as reply
use Rattle.world.specs.Courses.{happens}
use Rattle.world.proofs.Following.{Follow, attempted, attempted_refused, scene, watch}
use Rattle.world.proofs.world.World.attempt.Goals as goal

pub returns-in_err-see : goal.returns-in_err-see
returns-in_err-see g c =
    let k = watch g.O.Observer.Sees g.met.O.Observer.sees_nothing g.met.O.Observer.sees_more in
    let memory : c.from_residual.result ≡ Err r.Memory = search rules in
    subst (λ a. Follow g.O.Observer.Sees (scene c.args.self.now c.args.observer.now) (happens c.args.event c.args.self.now) a (scene c.step-reply.new.self c.see.new.self)) (sym memory)
    (attempted_refused k c.args.self.now c.step-reply.new.self c.args.observer.now c.see.new.self c.args.event c.step-reply.result c.step-reply.ensures.step)

pub returns : goal.returns
returns g c =
    let k = watch g.O.Observer.Sees g.met.O.Observer.sees_nothing g.met.O.Observer.sees_more in
    let other : c.step-reply.result ≡ reply.Refused r.Memory → ⊥ = search rules in
    let seen : g.O.Observer.Sees c.args.observer.now (record { event = c.args.event; reply = c.step-reply.result; after = c.step-reply.new.self } ∷ []) c.see.new.self = search rules in
    subst (λ a. Follow g.O.Observer.Sees (scene c.args.self.now c.args.observer.now) (happens c.args.event c.args.self.now) a (scene c.step-reply.new.self c.see.new.self)) (sym c.answer.ensures)
    (attempted k c.args.self.now c.step-reply.new.self c.args.observer.now c.see.new.self c.args.event c.step-reply.result c.step-reply.ensures.step other seen)
