use Rattle.std.proofs.Common.{◌∙◌, ap, arith}
use Rattle.report_rows.specs.ReplayRows.{end_of}
use Rattle.report_rows.proofs.Replayed.{appended-fits}
use Rattle.report_rows.proofs.replay_rows.appended_total.Goals as goal

pub overflow_add-total : goal.overflow_add-total
overflow_add-total c =
    let end = c.len.ensures ∙ ap (λ l. end_of l c.loop-p.p) c.logs-logs.ensures.logs in
    let fits = appended-fits c.args.cluster.now c.loop-p.p c.logs-logs.ensures.valid (omega arith) in
    omega (arith, end, fits, c.loop-p.invariant)
