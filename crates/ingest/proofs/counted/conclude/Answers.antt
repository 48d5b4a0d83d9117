use Rattle.std.proofs.Common.{◌<◌, List, length, subst, sym}
use Rattle.lane_words.specs.declared.limits.TheConstants.{MOST_RECORDS}
use Rattle.key_counts.specs.Segments.{keys_of}
use Rattle.key_counts.specs.declared.merging.Segment.{Segment}
use Rattle.key_stream.specs.Rounds.{entries_in}
use Rattle.ingest.proofs.EntryLimits.{few-different}
use Rattle.ingest.proofs.counted.conclude.Goals as goal

pub returns : goal.returns
returns c = λ keys so within.
    let workers = entries_in c.args.counting.now.workers.items in
    let order = keys_of workers c.args.counting.now.segments.items in
    let few : length order < MOST_RECORDS = subst (λ (ss : List Segment). length (keys_of workers ss) < MOST_RECORDS) c.as_slice.ensures.value (c.are_few.ensures c.if-not-are_few.false workers) in
    sym (c.first_fault.ensures keys so within (few-different c.args.plan.now.has_topics keys order workers so few))
