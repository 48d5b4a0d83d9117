use Rattle.std.proofs.Common.{rules}
use Rattle.csv_ingest.proofs.stand.Stand.next.Goals as goal

pub returns-then-byte-eq34 : goal.returns-then-byte-eq34
returns-then-byte-eq34 c = search rules

pub returns-else-byte-eq34 : goal.returns-else-byte-eq34
returns-else-byte-eq34 c = search rules

pub returns-in-Bare : goal.returns-in-Bare
returns-in-Bare c = search rules

pub returns-in-Fresh : goal.returns-in-Fresh
returns-in-Fresh c = search rules

pub returns-then-is_line_end : goal.returns-then-is_line_end
returns-then-is_line_end c = search rules

pub returns-else-is_line_end : goal.returns-else-is_line_end
returns-else-is_line_end c = search rules
