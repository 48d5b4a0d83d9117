use Rattle.std.proofs.Common.{rules}
use Rattle.csv_ingest.proofs.sink.item_of.Goals as goal

pub returns-in_err-from_slice : goal.returns-in_err-from_slice
returns-in_err-from_slice c = search rules

pub returns-in_default : goal.returns-in_default
returns-in_default c = search rules

pub returns-in_err-copy : goal.returns-in_err-copy
returns-in_err-copy c = search rules

pub returns-in_err-push : goal.returns-in_err-push
returns-in_err-push c = search rules

pub returns-in_err-extend_from_slice : goal.returns-in_err-extend_from_slice
returns-in_err-extend_from_slice c = search rules

pub returns : goal.returns
returns c = search rules
