use Rattle.std.proofs.Common.{◌≤◌}
use Rattle.std.specs.Prelude.{slice_range}
use Rattle.key_counts.specs.Counts.{records_of}
use Rattle.partition_log.specs.Taken.{records_taken}
use Rattle.place_report.specs.Private.RecordList.{AddsRecords}
use Rattle.place_report.proofs.record_list.add_chunk.Given as goal

abbrev pub invariant-loop-i : goal.invariant-loop-i
invariant-loop-i l = record {
  within : l.fn.chunk.from ≤ l.i;
  list : AddsRecords l.fn.list l.list (records_taken l.has_topics (slice_range (records_of l.entries) l.fn.chunk.from l.i));
}
