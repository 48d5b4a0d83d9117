use Rattle.std.proofs.Common.{rules, ◌≡◌, Err}
use Rattle.world.specs.Settling.{commit_pending, forgiven}
use Rattle.world.proofs.Following.{chain_on, chain_stops, commit_pending_course, flush_is, scene, watch}
use Rattle.world.proofs.world.World.flush.Goals as goal

pub returns-in_err-commit_or_realign : goal.returns-in_err-commit_or_realign
returns-in_err-commit_or_realign g c =
    let k = watch g.O.Observer.Sees g.met.O.Observer.sees_nothing g.met.O.Observer.sees_more in
    let same : c.from_residual.result ≡ Err c.in_err-commit_or_realign.field-0.0 = search rules in
    let w = c.args.self.now in
    let s = scene w c.args.observer.now in
    let mid = scene c.commit_or_realign.new.self c.commit_or_realign.new.observer in
    flush_is k c.args.member c.args.p s c.from_residual.result mid
    (chain_stops k s mid (forgiven (commit_pending c.args.member c.args.p w)) (commit_pending c.args.member c.args.p) c.commit_or_realign.result c.from_residual.result c.in_err-commit_or_realign.field-0.0
    (commit_pending_course c.args.member c.args.p w) c.commit_or_realign.ensures c.in_err-commit_or_realign.was same)

pub returns : goal.returns
returns g c =
    let k = watch g.O.Observer.Sees g.met.O.Observer.sees_nothing g.met.O.Observer.sees_more in
    let w = c.args.self.now in
    let s = scene w c.args.observer.now in
    let mid = scene c.commit_or_realign.new.self c.commit_or_realign.new.observer in
    let far = scene c.commit_pending.new.self c.commit_pending.new.observer in
    flush_is k c.args.member c.args.p s c.commit_pending.result far
    (chain_on k s mid (forgiven (commit_pending c.args.member c.args.p w)) (commit_pending c.args.member c.args.p) c.commit_or_realign.result
    (commit_pending_course c.args.member c.args.p w) c.commit_or_realign.ensures c.in_ok-commit_or_realign.was c.commit_pending.result far c.commit_pending.ensures)
