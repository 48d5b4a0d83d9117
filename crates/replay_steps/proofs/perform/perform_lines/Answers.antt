use Rattle.std.proofs.Common.{◌≡◌, Err, arith, rules}
use Rattle.replay_steps.proofs.Lines.{line_fault, no_line_left, nothing_yet, one_line_more}
use Rattle.replay_steps.proofs.perform.perform_lines.Goals as goal

pub loop-line-init : goal.loop-line-init
loop-line-init g c = nothing_yet g.O.StepObserver.Shows c.args.batch c.args.world.now c.args.observer c.new-walk.result.observer c.args.lines.now g.met.O.StepObserver.shows_nothing c.new-walk.ensures

pub returns-in_err-perform-clause-fault : goal.returns-in_err-perform-clause-fault
returns-in_err-perform-clause-fault g c =
    let fault = c.in_err-perform.field-0.0 in
    let same : c.from_residual.result ≡ Err fault = search rules in
    rw same (line_fault g.O.StepObserver.Shows c.args.batch c.args.world.now c.args.observer c.args.lines.now c.loop-line.line-index c.line-item.result c.loop-line.world c.loop-line.walk.observer fault (omega arith) c.line-item.is c.loop-line.invariant
    c.in_err-perform.ensures.fault)

pub loop-line-preserved : goal.loop-line-preserved
loop-line-preserved g c =
    one_line_more g.O.StepObserver.Shows c.args.batch c.args.world.now c.args.observer c.args.lines.now c.loop-line.line-index c.line-item.result c.loop-line.world c.perform.new.world c.loop-line.walk.observer c.perform.new.walk.observer c.in_ok-perform.field-0 g.met.O.StepObserver.shows_more
    (omega arith) c.line-item.is c.loop-line.invariant c.in_ok-perform.ensures.line

pub returns-clause-steps : goal.returns-clause-steps
returns-clause-steps g c =
    no_line_left g.O.StepObserver.Shows c.args.batch c.args.world.now c.args.observer c.args.lines.now c.loop-line.line-index c.loop-line.world c.loop-line.walk.observer (omega arith) c.loop-line.invariant
