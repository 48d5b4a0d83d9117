use Rattle.std.proofs.Common.{rules, ◌≡◌, ◌∙◌, ◌-◌, ◌+◌, suc, Ok, Err, arith, subst, sym}
use Rattle.lane_words.specs.declared.Refusal.TheVariants as r
use Rattle.world.specs.Settling.{pass, passes}
use Rattle.world.proofs.Following.{Continues, Follow, chain_on, chain_stops, goes_further, one_more_pass, pass_course, passes_run_out, scene, settled_and_synced_ends, watch}
use Rattle.world.proofs.world.World.make_passes.Goals as goal

pub returns-then-is_settled_and_synced : goal.returns-then-is_settled_and_synced
returns-then-is_settled_and_synced g c =
    let k = watch g.O.Observer.Sees g.met.O.Observer.sees_nothing g.met.O.Observer.sees_more in
    let mid = scene c.loop.self c.loop.observer in
    c.loop.invariant (Ok tt) mid (settled_and_synced_ends k (4 - c.loop.counter) mid (sym c.is_settled_and_synced.ensures ∙ c.if-is_settled_and_synced.true))

pub returns-in_err-make_pass : goal.returns-in_err-make_pass
returns-in_err-make_pass g c =
    let k = watch g.O.Observer.Sees g.met.O.Observer.sees_nothing g.met.O.Observer.sees_more in
    let same : c.from_residual.result ≡ Err c.in_err-make_pass.field-0.0 = search rules in
    let left : 4 - c.loop.counter ≡ suc (4 - (c.loop.counter + 1)) = omega (arith, c.loop-test.true) in
    let x = c.loop.self in
    let mid = scene x c.loop.observer in
    let far = scene c.make_pass.new.self c.make_pass.new.observer in
    let rest = 4 - (c.loop.counter + 1) in
    c.loop.invariant c.from_residual.result far
    (subst (λ n. Follow g.O.Observer.Sees mid (passes n x) c.from_residual.result far) (sym left)
    (one_more_pass k rest mid (sym c.is_settled_and_synced.ensures ∙ c.if-is_settled_and_synced.false) c.from_residual.result far
    (chain_stops k mid far (pass x) (passes rest) c.make_pass.result c.from_residual.result c.in_err-make_pass.field-0.0 (pass_course x) c.make_pass.ensures c.in_err-make_pass.was same)))

pub loop-preserved : goal.loop-preserved
loop-preserved g c =
    let k = watch g.O.Observer.Sees g.met.O.Observer.sees_nothing g.met.O.Observer.sees_more in
    let left : 4 - c.loop.counter ≡ suc (4 - (c.loop.counter + 1)) = omega (arith, c.loop-test.true) in
    let w = c.args.self.now in
    let x = c.loop.self in
    let y = c.make_pass.new.self in
    let s = scene w c.args.observer.now in
    let mid = scene x c.loop.observer in
    let far = scene y c.make_pass.new.observer in
    let rest = 4 - (c.loop.counter + 1) in
    goes_further k s mid far (passes 4 w) (passes (4 - c.loop.counter) x) (passes rest y) c.loop.invariant
    (subst (λ n. Continues g.O.Observer.Sees mid (passes n x) far (passes rest y)) (sym left)
    (λ result s2 f. one_more_pass k rest mid (sym c.is_settled_and_synced.ensures ∙ c.if-is_settled_and_synced.false) result s2
    (chain_on k mid far (pass x) (passes rest) c.make_pass.result (pass_course x) c.make_pass.ensures c.in_ok-make_pass.was result s2 f)))

pub returns-then-is_settled_and_synced-2 : goal.returns-then-is_settled_and_synced-2
returns-then-is_settled_and_synced-2 g c =
    let k = watch g.O.Observer.Sees g.met.O.Observer.sees_nothing g.met.O.Observer.sees_more in
    let mid = scene c.loop.self c.loop.observer in
    c.loop.invariant (Ok tt) mid (settled_and_synced_ends k (4 - c.loop.counter) mid (sym c.is_settled_and_synced-2.ensures ∙ c.if-is_settled_and_synced-2.true))

pub returns : goal.returns
returns g c =
    let k = watch g.O.Observer.Sees g.met.O.Observer.sees_nothing g.met.O.Observer.sees_more in
    let x = c.loop.self in
    let mid = scene x c.loop.observer in
    let none : 4 - c.loop.counter ≡ 0 = omega (arith, c.loop-test.false) in
    c.loop.invariant (Err r.NotSettled) mid (subst (λ n. Follow g.O.Observer.Sees mid (passes n x) (Err r.NotSettled) mid) (sym none) (passes_run_out k mid (sym c.is_settled_and_synced-2.ensures ∙ c.if-is_settled_and_synced-2.false)))
