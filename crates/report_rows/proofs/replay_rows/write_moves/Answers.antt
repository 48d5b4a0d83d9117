use Rattle.std.proofs.Common.{◌++◌, List, arith, drop, subst, rules}
use Rattle.group_machine.specs.declared.group.Move.{Move}
use Rattle.report_rows.specs.Rows.{HasText}
use Rattle.report_rows.specs.ReplayRows.{move_rows}
use Rattle.report_rows.proofs.Replayed.{moves_end, moves_step}
use Rattle.report_rows.proofs.replay_rows.write_moves.Goals as goal

pub loop-i-preserved : goal.loop-i-preserved
loop-i-preserved c text begun =
    let now = c.loop-i.invariant text begun in
    (_, c.in_ok-write_move.ensures now.0 now.1, moves_step now.0 c.args.topics.now c.args.cluster.now.group c.moves-moves.result.now c.loop-i.i _ _ (omega arith) now.2)

pub returns : goal.returns
returns c text begun =
    let now = c.loop-i.invariant text begun in
    let whole = moves_end now.0 c.args.topics.now c.args.cluster.now.group c.moves-moves.result.now c.loop-i.i _ (omega arith) now.2 in
    let all = rw whole at now.1 in
    subst (λ (moves : List Move). HasText c.loop-i.writer (text ++ move_rows c.args.topics.now c.args.cluster.now.group (drop c.args.from moves))) c.moves-moves.ensures all

pub loop-i-init : goal.loop-i-init
loop-i-init c = search rules
