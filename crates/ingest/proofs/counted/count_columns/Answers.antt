use Rattle.std.proofs.Common.{◌≡◌, ◌∙◌, Bool, List, ap, length}
use Rattle.std.specs.Prelude.{◌==◌, not}
use Rattle.partitioner.specs.declared.topic.Topic.{Topic}
use Rattle.csv_ingest.specs.Private.Wanted.{taking}
use Rattle.ingest.specs.Records.{partition_counts}
use Rattle.ingest.proofs.CountedFile.{columns-err, columns-ok}
use Rattle.ingest.proofs.counted.count_columns.Goals as goal

named : (topics items : List Topic) (is_empty : Bool) → topics ≡ items → is_empty ≡ (length topics == 0) → not is_empty ≡ not (length items == 0)
named topics items is_empty same is = ap not (is ∙ ap (λ (ts : List Topic). length ts == 0) same)

pub returns-clause-ok : goal.returns-clause-ok
returns-clause-ok g c =
    let options = c.args.options.now in
    let counts : c.as_slice-2.result.now ≡ partition_counts options = c.as_slice-2.ensures.value ∙ c.in_ok-counts.ensures.value in
    let topics = named c.as_slice-topics.result.now options.topics.items c.is_empty.result c.as_slice-topics.ensures.value c.is_empty.ensures in
    columns-ok options c.args.columns (taking c.wanted_among-wanted.result) _ _ _ _ _ c.count_source.result c.wanted_among-wanted.ensures.records (rw (counts, topics) at c.count_source.ensures.ok)

pub returns-clause-err : goal.returns-clause-err
returns-clause-err g c =
    let options = c.args.options.now in
    columns-err options c.args.columns (taking c.wanted_among-wanted.result) _ _ c.count_source.result c.wanted_among-wanted.ensures.records c.count_source.ensures.err
