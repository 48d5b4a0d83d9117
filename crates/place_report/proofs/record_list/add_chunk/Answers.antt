use Rattle.std.proofs.Common.{◌∙◌, ap, arith, get_or}
use Rattle.key_counts.specs.Counts.{records_of}
use Rattle.partition_log.specs.Keys.{key_at}
use Rattle.partition_log.specs.Taken.{record_taken}
use Rattle.place_report.proofs.RecordList.{adds-none, adds-one}
use Rattle.place_report.proofs.record_list.add_chunk.Goals as goal

pub loop-i-init : goal.loop-i-init
loop-i-init c = record {
  within = omega arith;
  list = adds-none c.args.list.now c.args.has_topics (records_of c.args.entries.now) c.args.chunk.from;
}

pub loop-i-preserved : goal.loop-i-preserved
loop-i-preserved c =
    let entries = c.args.entries.now in
    let i = c.loop-i.i in
    let within = c.loop-i.invariant.within in
    let read = c.key.ensures ∙ ap (λ codes. key_at entries.keys (get_or codes i 0)) c.codes-codes.ensures.value in
    record {
      within = omega (arith, within);
      list = adds-one c.args.list.now c.loop-i.list _ c.args.has_topics entries c.args.chunk.from i c.record_of-topic.result.0 c.record_of-topic.result.1 within (omega (arith, c.requires.within))
          (c.record_of-topic.ensures.topic ∙ ap (λ key. (record_taken c.args.has_topics key).0) read) (c.record_of-topic.ensures.key ∙ ap (λ key. (record_taken c.args.has_topics key).1) read)
          c.in_ok-push.ensures.items c.in_ok-push-2.ensures.items c.loop-i.invariant.list;
    }
