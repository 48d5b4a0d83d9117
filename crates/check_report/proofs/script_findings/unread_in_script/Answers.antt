use Rattle.std.proofs.Common.{sym}
use Rattle.check_report.proofs.script_findings.unread_in_script.Goals as goal

pub returns : goal.returns
returns c = rw (sym c.is_empty.ensures) c.unread_words.ensures
