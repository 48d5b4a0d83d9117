use Rattle.std.proofs.Common.{◌≡◌, ◌≤◌, ◌++◌, length}
use Rattle.std.specs.List.{filter_map}
use Rattle.check_report.specs.Private.PlacedRecords.{IsReading, records_left}
use Rattle.check_report.specs.RecordFindings.{record_finding}
use Rattle.check_report.proofs.record_findings.check_rest.Given as goal

abbrev pub invariant-records : goal.invariant-records
invariant-records l = record {
  reads : IsReading l.records;
  few : length l.found.items ≤ l.most;
  told : l.found.items ++ filter_map (record_finding l.wants l.width) (records_left l.records)
      ≡ l.fn.found.items ++ filter_map (record_finding l.wants l.width) (records_left l.fn.records);
}

abbrev pub decreases-records : goal.decreases-records
decreases-records l = length l.records.places
