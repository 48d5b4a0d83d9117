use Rattle.std.proofs.Common.{◌≡◌, ◌+◌, None, Some, append-nil, arith, inl, length}
use Rattle.std.proofs.lemmas.Bool.Decides.{nat_tests}
use Rattle.std.proofs.lemmas.Result.{err_from_is_err_and}
use Rattle.script.proofs.Progress.{read-all, read-more, read-refused}
use Rattle.script.specs.Replay.{read_answer_in}
use Rattle.script.proofs.replay.lines_in.Goals as goal

pub returns-in_err-action : goal.returns-in_err-action
returns-in_err-action c =
    let p = err_from_is_err_and c.from_residual.result c.from_residual.ensures.1 in
    rw (p.1, p.2)
    (read-refused c.args.topics.now c.loop-rest.lines.items (read_answer_in c.args.topics.now c.args.bytes.now)
    (c.loop-rest.number + 1) c.loop-rest.rest.now c.first_line.result.0.now
    c.first_line.result.1.now _ (c.first_line.ensures.lines (c.loop-rest.number + 1))
    c.loop-rest.invariant.answer c.in_err-action.ensures)

pub loop-rest-preserved-in_ok-push : goal.loop-rest-preserved-in_ok-push
loop-rest-preserved-in_ok-push c =
    let parsed = rw c.in-Some.is at c.in_ok-action.ensures in
    record {
      answer = rw c.in_ok-push.ensures.items
          (read-more c.args.topics.now c.loop-rest.lines.items (read_answer_in c.args.topics.now c.args.bytes.now)
          (c.loop-rest.number + 1) c.loop-rest.rest.now c.first_line.result.0.now
          c.first_line.result.1.now (Some c.in-Some.action)
          (c.first_line.ensures.lines (c.loop-rest.number + 1))
          c.loop-rest.invariant.answer parsed);
      few = omega arith;
    }

pub loop-rest-preserved : goal.loop-rest-preserved
loop-rest-preserved c =
    let silent = rw c.in_default.is at c.in_ok-action.ensures in
    let more =
    read-more c.args.topics.now c.loop-rest.lines.items (read_answer_in c.args.topics.now c.args.bytes.now)
    (c.loop-rest.number + 1) c.loop-rest.rest.now c.first_line.result.0.now
    c.first_line.result.1.now None
    (c.first_line.ensures.lines (c.loop-rest.number + 1))
    c.loop-rest.invariant.answer silent in
    record { answer = rw (append-nil c.loop-rest.lines.items) at more; few = omega arith }

pub returns : goal.returns
returns c =
    let none : length c.loop-rest.rest.now ≡ 0 = grind (arith, nat_tests) in
    inl
    (read-all c.args.topics.now c.loop-rest.lines.items (read_answer_in c.args.topics.now c.args.bytes.now) (c.loop-rest.number + 1)
    c.loop-rest.rest.now c.loop-rest.invariant.answer none)
