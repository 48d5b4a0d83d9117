use Rattle.std.proofs.Common.{◌∙◌, List, subst, sym}
use Rattle.key_stream.specs.Rounds.{entries_in}
use Rattle.key_stream.specs.declared.worker.Worker.{Worker}
use Rattle.ingest.specs.Limits.{BeginsAfter}
use Rattle.ingest.proofs.Checking.{begins-new}
use Rattle.ingest.proofs.counted.begin_check.Goals as goal

pub returns : goal.returns
returns c =
    let counts = c.args.plan.now.counts.now in
    let has_topics = c.args.plan.now.has_topics in
    let counting = c.args.counting.now in
    begins-new counts has_topics (entries_in counting.workers.items) counting.round.keys c.args.more c.args.check.now c.in_ok-of.field-0 (sym c.is_some.ensures ∙ c.if-is_some.false)
    (subst (λ (ws : List Worker). BeginsAfter counts has_topics (entries_in ws) c.in_ok-of.field-0) c.as_slice-workers.ensures.value c.in_ok-of.ensures.state)
