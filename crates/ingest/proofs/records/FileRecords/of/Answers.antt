use Rattle.std.proofs.Common.{◌≡◌, ◌∙◌, List, ap, length}
use Rattle.std.specs.Prelude.{◌==◌, not}
use Rattle.partitioner.specs.declared.topic.Topic.{Topic}
use Rattle.ingest.specs.Records.{names_topics}
use Rattle.ingest.proofs.Kept.{are-kept, read-from}
use Rattle.ingest.proofs.records.FileRecords.of.Goals as goal

pub invariant_of-result : goal.invariant_of-result
invariant_of-result c =
    are-kept c.args.options.now c.requires.counted.0 c.requires.counted.1 c.args.counting c.args.refusal c.in_ok-workers.field-0 c.in_ok-workers.ensures c.requires.coded c.requires.counted.2

pub returns : goal.returns
returns c =
    let named : not c.is_empty.result ≡ names_topics c.args.options.now =
    ap not (c.is_empty.ensures ∙ ap (λ (ts : List Topic). length ts == 0) c.as_slice.ensures.value) in
    read-from c.args.options.now c.args.counting c.args.refusal c.in_ok-workers.field-0 (not c.is_empty.result) c.in_ok-workers.ensures c.requires.coded named
