use Rattle.std.proofs.Common.{rules, ◌≡◌, [], Ok, Err, subst, sym}
use Rattle.bit_planes.specs.PartitionSet.{elements}
use Rattle.world.specs.Courses.{for_each}
use Rattle.world.specs.Settling.{flush}
use Rattle.world.proofs.Following.{Continues, Follow, each_done, each_on, each_stops, flush_course, goes_further, scene, watch}
use Rattle.world.proofs.world.World.flush_all.Goals as goal

pub loop-p-preserved : goal.loop-p-preserved
loop-p-preserved g c =
    let k = watch g.O.Observer.Sees g.met.O.Observer.sees_nothing g.met.O.Observer.sees_more in
    let w = c.args.self.now in
    let course = flush c.args.member in
    let s = scene w c.args.observer.now in
    let mid = scene c.loop-p.self c.loop-p.observer in
    let far = scene c.flush.new.self c.flush.new.observer in
    let next = c.next.new.self in
    goes_further k s mid far (for_each (elements c.args.given.now) course w) (for_each c.loop-p.p-iterator course c.loop-p.self) (for_each next course c.flush.new.self) c.loop-p.invariant
    (subst (λ xs. Continues g.O.Observer.Sees mid (for_each xs course c.loop-p.self) far (for_each next course c.flush.new.self)) (sym c.in-Some.ensures.steps)
    (each_on k mid far c.in-Some.p next course c.flush.result (flush_course c.args.member c.in-Some.p c.loop-p.self) c.flush.ensures c.in_ok-flush.was))

pub returns-in_err-flush : goal.returns-in_err-flush
returns-in_err-flush g c =
    let k = watch g.O.Observer.Sees g.met.O.Observer.sees_nothing g.met.O.Observer.sees_more in
    let same : c.from_residual.result ≡ Err c.in_err-flush.field-0.0 = search rules in
    let course = flush c.args.member in
    let mid = scene c.loop-p.self c.loop-p.observer in
    let far = scene c.flush.new.self c.flush.new.observer in
    c.loop-p.invariant c.from_residual.result far
    (subst (λ xs. Follow g.O.Observer.Sees mid (for_each xs course c.loop-p.self) c.from_residual.result far) (sym c.in-Some.ensures.steps)
    (each_stops k mid far c.in-Some.p c.next.new.self course c.flush.result c.from_residual.result c.in_err-flush.field-0.0 (flush_course c.args.member c.in-Some.p c.loop-p.self) c.flush.ensures c.in_err-flush.was same))

pub returns : goal.returns
returns g c =
    let k = watch g.O.Observer.Sees g.met.O.Observer.sees_nothing g.met.O.Observer.sees_more in
    let over : c.loop-p.p-iterator ≡ [] = search rules in
    let mid = scene c.loop-p.self c.loop-p.observer in
    c.loop-p.invariant (Ok tt) mid (subst (λ xs. Follow g.O.Observer.Sees mid (for_each xs (flush c.args.member) c.loop-p.self) (Ok tt) mid) (sym over) (each_done k mid (flush c.args.member)))
