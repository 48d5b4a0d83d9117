use Rattle.std.proofs.Common.{rules}
use Rattle.csv_ingest.proofs.stand.is_line_end.Goals as goal

pub returns-then-byte-eq13 : goal.returns-then-byte-eq13
returns-then-byte-eq13 c = search rules

pub returns-else-byte-eq13 : goal.returns-else-byte-eq13
returns-else-byte-eq13 c = search rules
