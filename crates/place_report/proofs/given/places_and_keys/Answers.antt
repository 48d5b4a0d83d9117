use Rattle.std.proofs.Common.{◌≡◌, ◌∙◌, List, ap, ap₂, length, subst}
use Rattle.std.specs.Prelude.{zip}
use Rattle.partition_log.specs.Keys.{Keyed}
use Rattle.partition_log.specs.Appends.{lent}
use Rattle.place_report.specs.Private.RecordList.{IsListOf}
use Rattle.place_report.proofs.Read.{topic_places}
use Rattle.place_report.proofs.RecordList.{list-topics, list-zip}
use Rattle.place_report.proofs.given.places_and_keys.Goals as goal

pub places_of_in-requires-after_bounds : goal.places_of_in-requires-after_bounds
places_of_in-requires-after_bounds g c κs within =
    let records = c.args.records.now.records in
    let list = subst (λ (rs : List Keyed). IsListOf rs c.in_ok-topics.field-0) c.taken.ensures.records c.in_ok-topics.ensures in
    list-topics (length c.args.logs.now.counts) records c.as_slice.result.now c.as_slice-2.result.now c.requires (c.as_slice.ensures.value ∙ list.topics) (ap lent c.as_slice-2.ensures.value ∙ list.keys)

pub returns-clause-places : goal.returns-clause-places
returns-clause-places g c =
    let records = c.args.records.now.records in
    let list = subst (λ (rs : List Keyed). IsListOf rs c.in_ok-topics.field-0) c.taken.ensures.records c.in_ok-topics.ensures in
    let found : zip c.as_slice.result.now (lent c.as_slice-2.result.now) ≡ records =
    ap₂ zip (c.as_slice.ensures.value ∙ list.topics) (ap lent c.as_slice-2.ensures.value ∙ list.keys) ∙ list-zip records in
    c.in_ok-places.ensures.partitions ∙ topic_places c.args.logs.now c.as_slice.result.now c.as_slice-2.result.now records found
