use Rattle.std.proofs.Common.{◌∙◌, [], inr, sym}
use Rattle.ingest.specs.Counted.{AreReadFor}
use Rattle.ingest.specs.Records.{partition_counts}
use Rattle.ingest.proofs.Appended.{accepted-empty, none-then}
use Rattle.ingest.proofs.Failures.{first_fault-kind}
use Rattle.ingest.proofs.records.logs_of.Goals as goal

pub returns-in-Some-clause-answer : goal.returns-in-Some-clause-answer
unfolding AreReadFor
returns-in-Some-clause-answer g c =
    let is = c.requires.topics.refused ∙ sym c.refusal.ensures ∙ c.in-Some.is in
    (first_fault-kind (partition_counts c.args.options.now) [] c.args.records.now.records c.in-Some.fault is, inr is)

pub of_taken-requires-clause-accepted : goal.of_taken-requires-clause-accepted
unfolding AreReadFor
of_taken-requires-clause-accepted g c = λ κs within.
    let counts = partition_counts c.args.options.now in
    let records = c.args.records.now.records in
    let none = c.requires.topics.refused ∙ sym c.refusal.ensures ∙ none-then c.refusal.result c.in_default.not-Some in
    rw (c.as_slice.ensures.value, c.in_ok-counts.ensures.value, c.taken.ensures.records)
    (accepted-empty counts records c.in_ok-counts.ensures.valid c.requires.topics.topics none)

pub of_taken-requires-clause-topics : goal.of_taken-requires-clause-topics
unfolding AreReadFor
of_taken-requires-clause-topics g c = λ κs within.
    rw (c.as_slice.ensures.value, c.in_ok-counts.ensures.value, c.taken.ensures.records) c.requires.topics.topics

pub returns-clause-answer : goal.returns-clause-answer
unfolding AreReadFor
returns-clause-answer g c =
    c.requires.topics.refused ∙ sym c.refusal.ensures ∙ none-then c.refusal.result c.in_default.not-Some
