use Rattle.std.proofs.Common.{◌≡◌, ◌∙◌, Bool, ap, false, subst, sym, true}
use Rattle.std.specs.Prelude.{◌==◌, length, map, not, List, None, Some, ℕ}
use Rattle.std.specs.Borrow.{Bor}
use Rattle.partitioner.specs.declared.topic.Topic.{Topic}
use Rattle.csv_ingest.specs.Private.Wanted.{Columns, taking}
use Rattle.ingest.specs.Private.Counted.{TakesColumns, TakesTopics}
use Rattle.ingest.specs.Records.{names_topics, partition_counts}
use Rattle.ingest.proofs.Taken.{takes-among, takes-first, takes-key, takes-topic_key}
use Rattle.ingest.proofs.reading.wanted_among.Goals as goal

empty : {topics : List Topic} (items : List Topic) (is_empty b : Bool) → topics ≡ items → is_empty ≡ (length topics == 0) → is_empty ≡ b → (length items == 0) ≡ b
empty items is_empty b same is so = ap (λ (ts : List Topic). length ts == 0) (sym same) ∙ sym is ∙ so

pub returns-then-is_empty-clause-records : goal.returns-then-is_empty-clause-records
returns-then-is_empty-clause-records c =
    let options = c.args.options.now in
    let none : (length options.topics.items == 0) ≡ true = empty options.topics.items c.is_empty.result true c.as_slice-topics.ensures.value c.is_empty.ensures c.if-is_empty.true in
    subst (λ (wanted : Columns). TakesColumns options c.args.column c.args.topic_column (taking wanted)) (sym c.key.ensures) (takes-key options c.args.column c.args.topic_column none)

pub returns-then-is_empty-clause-topics : goal.returns-then-is_empty-clause-topics
returns-then-is_empty-clause-topics c =
    let options = c.args.options.now in
    let none : names_topics options ≡ false = ap not (empty options.topics.items c.is_empty.result true c.as_slice-topics.ensures.value c.is_empty.ensures c.if-is_empty.true) in
    subst (λ (wanted : Columns). TakesTopics (taking wanted) (partition_counts options) (names_topics options)) (sym c.key.ensures)
    (subst (TakesTopics (taking (c.args.column, None)) (partition_counts options)) (sym none) (takes-first c.args.column options.partitions options.topics.items))

pub returns-else-is_empty-clause-records : goal.returns-else-is_empty-clause-records
returns-else-is_empty-clause-records c =
    let options = c.args.options.now in
    let names = map (λ (name : Bor (List ℕ)). name.now) c.args.names.now in
    let some : (length options.topics.items == 0) ≡ false = empty options.topics.items c.is_empty.result false c.as_slice-topics.ensures.value c.is_empty.ensures c.if-is_empty.false in
    subst (λ (wanted : Columns). TakesColumns options c.args.column c.args.topic_column (taking wanted)) (sym c.topic_and_key.ensures)
    (takes-topic_key options c.args.column c.args.topic_column names some c.requires.names)

pub returns-else-is_empty-clause-topics : goal.returns-else-is_empty-clause-topics
returns-else-is_empty-clause-topics c =
    let options = c.args.options.now in
    let names = map (λ (name : Bor (List ℕ)). name.now) c.args.names.now in
    let some : (length options.topics.items == 0) ≡ false = empty options.topics.items c.is_empty.result false c.as_slice-topics.ensures.value c.is_empty.ensures c.if-is_empty.false in
    let named : names_topics options ≡ true = ap not some in
    subst (λ (wanted : Columns). TakesTopics (taking wanted) (partition_counts options) (names_topics options)) (sym c.topic_and_key.ensures)
    (subst (TakesTopics (taking (c.args.column, Some (c.args.topic_column, names))) (partition_counts options)) (sym named)
    (takes-among c.args.column c.args.topic_column options.partitions options.topics.items names some c.requires.names))
