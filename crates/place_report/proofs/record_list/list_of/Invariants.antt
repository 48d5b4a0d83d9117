use Rattle.place_report.specs.Private.RecordList.{IsListOf}
use Rattle.place_report.proofs.RecordList.{so_far}
use Rattle.place_report.proofs.record_list.list_of.Given as goal

abbrev pub invariant-loop-i : goal.invariant-loop-i
invariant-loop-i l = IsListOf (so_far l.taken l.i) l.list
