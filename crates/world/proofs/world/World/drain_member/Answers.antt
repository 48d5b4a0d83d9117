use Rattle.std.proofs.Common.{rules, ◌≡◌, ◌∙◌, [], Ok, Err, ap, arith, refl, subst, sym}
use Rattle.bit_planes.specs.PartitionSet.{elements}
use Rattle.group_machine.specs.State.{GroupState}
use Rattle.world.specs.Courses.{for_each}
use Rattle.world.specs.Draining.{drain_log, drain_member, held_by}
use Rattle.world.proofs.Following.{Continues, Follow, drain_log_course, drain_member_is, each_done, each_on, each_stops, goes_further, scene, unseen, watch}
use Rattle.world.proofs.Preserved.{IsReading, LeavesGroup, drain_log_events, preserves_group, preserved_following, reading_open}
use Rattle.world.proofs.Walks.{AreBelow, elements_below, held_partitions}
use Rattle.world.proofs.world.World.drain_member.Goals as goal

pub loop-p-init : goal.loop-p-init
loop-p-init g c =
    let k = watch g.O.Observer.Sees g.met.O.Observer.sees_nothing g.met.O.Observer.sees_more in
    let w = c.args.self.now in
    let s = scene w c.args.observer.now in
    let all : c.into_iter-p-iterator.result ≡ elements (held_by w c.args.member) = c.into_iter-p-iterator.ensures.into_iter_gives ∙ c.iter-p-items.ensures.value ∙ ap elements c.held_by.ensures in
    record {
      left = subst (λ xs. Continues g.O.Observer.Sees s (drain_member c.args.batch c.args.member w) s (for_each xs (drain_log c.args.batch c.args.member) w)) (sym all) (drain_member_is k c.args.batch c.args.member s);
      below = subst (λ xs. AreBelow w.cluster.group.partitions xs) (sym all) (subst (λ n. AreBelow n (elements (held_by w c.args.member))) (held_partitions w c.args.member) (elements_below (held_by w c.args.member)));
      partitions = refl;
    }

pub drain_log-requires : goal.drain_log-requires
drain_log-requires g c =
    let below = subst (AreBelow c.args.self.now.cluster.group.partitions) c.in-Some.ensures.steps c.loop-p.invariant.below in
    omega (arith, below.0, c.loop-p.invariant.partitions)

pub loop-p-preserved : goal.loop-p-preserved
loop-p-preserved g c =
    let k = watch g.O.Observer.Sees g.met.O.Observer.sees_nothing g.met.O.Observer.sees_more in
    let w = c.args.self.now in
    let course = drain_log c.args.batch c.args.member in
    let x = c.loop-p.self in
    let y = c.drain_log.new.self in
    let s = scene w c.args.observer.now in
    let mid = scene x c.loop-p.observer in
    let far = scene y c.drain_log.new.observer in
    let next = c.next.new.self in
    let p = c.in-Some.p in
    let made = drain_log_course c.args.batch c.args.member p x in
    let below = subst (AreBelow w.cluster.group.partitions) c.in-Some.ensures.steps c.loop-p.invariant.below in
    let follows = unseen k mid far (course p x) c.drain_log.result c.drain_log.ensures in
    let group = (preserved_following IsReading LeavesGroup preserves_group x y (course p x) c.drain_log.result made (drain_log_events IsReading reading_open c.args.batch c.args.member p x) follows).group in
    record {
      left = goes_further k s mid far (drain_member c.args.batch c.args.member w) (for_each c.loop-p.p-iterator course x) (for_each next course y) c.loop-p.invariant.left
          (subst (λ xs. Continues g.O.Observer.Sees mid (for_each xs course x) far (for_each next course y)) (sym c.in-Some.ensures.steps)
          (each_on k mid far p next course c.drain_log.result made c.drain_log.ensures c.in_ok-drain_log.was));
      below = below.1;
      partitions = ap (λ (h : GroupState). h.partitions) group ∙ c.loop-p.invariant.partitions;
    }

pub returns-in_err-drain_log : goal.returns-in_err-drain_log
returns-in_err-drain_log g c =
    let k = watch g.O.Observer.Sees g.met.O.Observer.sees_nothing g.met.O.Observer.sees_more in
    let same : c.from_residual.result ≡ Err c.in_err-drain_log.field-0.0 = search rules in
    let course = drain_log c.args.batch c.args.member in
    let x = c.loop-p.self in
    let mid = scene x c.loop-p.observer in
    let far = scene c.drain_log.new.self c.drain_log.new.observer in
    c.loop-p.invariant.left c.from_residual.result far
    (subst (λ xs. Follow g.O.Observer.Sees mid (for_each xs course x) c.from_residual.result far) (sym c.in-Some.ensures.steps)
    (each_stops k mid far c.in-Some.p c.next.new.self course c.drain_log.result c.from_residual.result c.in_err-drain_log.field-0.0 (drain_log_course c.args.batch c.args.member c.in-Some.p x) c.drain_log.ensures c.in_err-drain_log.was same))

pub returns : goal.returns
returns g c =
    let k = watch g.O.Observer.Sees g.met.O.Observer.sees_nothing g.met.O.Observer.sees_more in
    let over : c.loop-p.p-iterator ≡ [] = search rules in
    let x = c.loop-p.self in
    let mid = scene x c.loop-p.observer in
    let course = drain_log c.args.batch c.args.member in
    c.loop-p.invariant.left (Ok tt) mid (subst (λ xs. Follow g.O.Observer.Sees mid (for_each xs course x) (Ok tt) mid) (sym over) (each_done k mid course))
