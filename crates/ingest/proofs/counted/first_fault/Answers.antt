use Rattle.std.proofs.Common.{◌≡◌, ◌∙◌, List, ap, subst}
use Rattle.key_stream.specs.Rounds.{entries_in}
use Rattle.key_stream.specs.declared.worker.Worker.{Worker}
use Rattle.ingest.specs.Private.Counted.{AreWithin}
use Rattle.ingest.specs.Private.Limits.{long_fault_of}
use Rattle.ingest.proofs.Checking.{fault-unchecked}
use Rattle.ingest.proofs.counted.first_fault.Goals as goal

pub returns-in-None : goal.returns-in-None
returns-in-None c =
    let counts = c.args.plan.now.counts.now in
    let has_topics = c.args.plan.now.has_topics in
    let counting = c.args.counting.now in
    let workers = entries_in counting.workers.items in
    let is : c.long_fault.result ≡ long_fault_of has_topics workers = c.long_fault.ensures ∙ ap (λ (ws : List Worker). long_fault_of has_topics (entries_in ws)) c.as_slice.ensures.value in
    λ keys so within few.
    is ∙ fault-unchecked counts has_topics workers counting.segments.items keys so (subst (AreWithin counts has_topics keys) c.in-None.is within) few
