use Rattle.std.proofs.Common.{◌≡◌, ◌∙◌, ◌*◌, ◌<◌, ap, arith, length, refl, subst}
use Rattle.partition_log.specs.Keys.{Keyed}
use Rattle.ingest.specs.Limits.{Limits, record_taken}
use Rattle.ingest.specs.Private.Limits.{Adds, has_long_key, raised}
use Rattle.ingest.specs.Records.{partition_of_record}
use Rattle.ingest.proofs.EntryLimits.{adds-one}
use Rattle.ingest.proofs.GoingOn.{pair-is}
use Rattle.ingest.proofs.limits.LimitCheck.add_entry.Goals as goal

pub returns : goal.returns
returns c =
    let key = c.args.key.now in
    let old : Limits = record {
      counts = c.self.inside.partitions;
      has_topics = c.self.inside.has_topics;
      lens = c.self.inside.lens.items;
      fault = c.self.inside.fault;
    } in
    let new : Limits = record old { lens = c.raise.new.lens.items; fault = c.fault_with-self-inside.result } in
    let keyed : Keyed = (c.record_of-topic.result.0, c.record_of-topic.result.1.now) in
    let is : keyed ≡ record_taken old.has_topics key =
    pair-is c.record_of-topic.result.0 c.record_of-topic.result.1.now (record_taken old.has_topics key) c.record_of-topic.ensures.topic c.record_of-topic.ensures.key in
    let place : c.place_in-p.result ≡ partition_of_record old.counts keyed = c.place_in-p.ensures.partition in
    let below : partition_of_record old.counts keyed < length old.lens = omega (arith, place, c.place_in-p.ensures.bound, c.self.invariant) in
    subst (λ before. Adds before (λ f. c.args.records * f key) (has_long_key before.has_topics key) new) c.self.view_is
    (adds-one old new key keyed c.args.records is refl refl c.fault_with-self-inside.ensures (c.raise.ensures.lens ∙ ap (λ p. raised old.lens p c.args.records) place) below)
