use Rattle.std.proofs.Common.{rules, ◌≡◌, ◌∙◌, ◌-◌, ◌+◌, suc, Ok, Err, length, ap, arith, subst, sym}
use Rattle.group_machine.specs.State.{GroupState}
use Rattle.partition_log.specs.Logs.{log_at}
use Rattle.world.specs.Draining.{drain_log, read_on, read_up}
use Rattle.world.proofs.Following.{Continues, Follow, chain_on, chain_stops, drain_log_is, goes_further, read_on_course, read_up_done, read_up_ends, read_up_more, scene, unseen, watch}
use Rattle.world.proofs.Preserved.{IsReading, LeavesGroup, preserves_group, preserved_following, read_on_events, reading_open}
use Rattle.world.proofs.world.World.drain_log.Goals as goal

pub loop-init : goal.loop-init
loop-init g c =
    let k = watch g.O.Observer.Sees g.met.O.Observer.sees_nothing g.met.O.Observer.sees_more in
    let w = c.args.self.now in
    let s = scene w c.args.observer.now in
    let end : length (log_at w.cluster.logs c.args.p) ≡ c.len-end.result - 0 = search rules in
    record {
      left = λ result s2 f. drain_log_is k c.args.batch c.args.member c.args.p s result s2
          (subst (λ n. Follow g.O.Observer.Sees s (read_up n c.args.batch c.args.member c.args.p w) result s2) (sym end) f);
      partitions = search rules;
    }

pub returns-then-is_read_up : goal.returns-then-is_read_up
returns-then-is_read_up g c =
    let k = watch g.O.Observer.Sees g.met.O.Observer.sees_nothing g.met.O.Observer.sees_more in
    let mid = scene c.loop.self c.loop.observer in
    c.loop.invariant.left (Ok tt) mid (read_up_ends k (c.len-end.result - c.loop.counter) c.args.batch c.args.member c.args.p mid (sym c.is_read_up.ensures ∙ c.if-is_read_up.true))

pub returns-in_err-read_on : goal.returns-in_err-read_on
returns-in_err-read_on g c =
    let k = watch g.O.Observer.Sees g.met.O.Observer.sees_nothing g.met.O.Observer.sees_more in
    let same : c.from_residual.result ≡ Err c.in_err-read_on.field-0.0 = search rules in
    let left : c.len-end.result - c.loop.counter ≡ suc (c.len-end.result - (c.loop.counter + 1)) = omega (arith, c.loop-test.true) in
    let x = c.loop.self in
    let mid = scene x c.loop.observer in
    let far = scene c.read_on.new.self c.read_on.new.observer in
    let rest = c.len-end.result - (c.loop.counter + 1) in
    c.loop.invariant.left c.from_residual.result far
    (subst (λ n. Follow g.O.Observer.Sees mid (read_up n c.args.batch c.args.member c.args.p x) c.from_residual.result far) (sym left)
    (read_up_more k rest c.args.batch c.args.member c.args.p mid (sym c.is_read_up.ensures ∙ c.if-is_read_up.false) c.from_residual.result far
    (chain_stops k mid far (read_on c.args.batch c.args.member c.args.p x) (read_up rest c.args.batch c.args.member c.args.p) c.read_on.result c.from_residual.result c.in_err-read_on.field-0.0
    (read_on_course c.args.batch c.args.member c.args.p x) c.read_on.ensures c.in_err-read_on.was same)))

pub loop-preserved : goal.loop-preserved
loop-preserved g c =
    let k = watch g.O.Observer.Sees g.met.O.Observer.sees_nothing g.met.O.Observer.sees_more in
    let left : c.len-end.result - c.loop.counter ≡ suc (c.len-end.result - (c.loop.counter + 1)) = omega (arith, c.loop-test.true) in
    let w = c.args.self.now in
    let x = c.loop.self in
    let y = c.read_on.new.self in
    let s = scene w c.args.observer.now in
    let mid = scene x c.loop.observer in
    let far = scene y c.read_on.new.observer in
    let rest = c.len-end.result - (c.loop.counter + 1) in
    let one = read_on c.args.batch c.args.member c.args.p x in
    let made = read_on_course c.args.batch c.args.member c.args.p x in
    let more = read_up rest c.args.batch c.args.member c.args.p in
    let follows = unseen k mid far one c.read_on.result c.read_on.ensures in
    let group = (preserved_following IsReading LeavesGroup preserves_group x y one c.read_on.result made (read_on_events IsReading reading_open c.args.batch c.args.member c.args.p x) follows).group in
    record {
      left = goes_further k s mid far (drain_log c.args.batch c.args.member c.args.p w) (read_up (c.len-end.result - c.loop.counter) c.args.batch c.args.member c.args.p x) (more y) c.loop.invariant.left
          (subst (λ n. Continues g.O.Observer.Sees mid (read_up n c.args.batch c.args.member c.args.p x) far (more y)) (sym left)
          (λ result s2 f. read_up_more k rest c.args.batch c.args.member c.args.p mid (sym c.is_read_up.ensures ∙ c.if-is_read_up.false) result s2
          (chain_on k mid far one more c.read_on.result made c.read_on.ensures c.in_ok-read_on.was result s2 f)));
      partitions = ap (λ (h : GroupState). h.partitions) group ∙ c.loop.invariant.partitions;
    }

pub returns : goal.returns
returns g c =
    let k = watch g.O.Observer.Sees g.met.O.Observer.sees_nothing g.met.O.Observer.sees_more in
    let x = c.loop.self in
    let mid = scene x c.loop.observer in
    let none : c.len-end.result - c.loop.counter ≡ 0 = omega (arith, c.loop-test.false) in
    c.loop.invariant.left (Ok tt) mid (subst (λ n. Follow g.O.Observer.Sees mid (read_up n c.args.batch c.args.member c.args.p x) (Ok tt) mid) (sym none) (read_up_done k c.args.batch c.args.member c.args.p mid))
