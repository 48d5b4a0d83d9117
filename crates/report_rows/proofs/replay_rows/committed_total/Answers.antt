use Rattle.std.proofs.Common.{◌∙◌, ap, arith}
use Rattle.commit_store.specs.Commits.{committed_at}
use Rattle.report_rows.proofs.Replayed.{committed-fits}
use Rattle.report_rows.proofs.replay_rows.committed_total.Goals as goal

pub overflow_add-total : goal.overflow_add-total
overflow_add-total c =
    let committed = c.committed.ensures ∙ ap (λ x. committed_at x c.loop-p.p) c.store-store.ensures.store in
    let fits = committed-fits c.args.cluster.now c.loop-p.p c.store-store.ensures.valid (omega arith) in
    omega (arith, committed, fits, c.loop-p.invariant)
