use Rattle.std.proofs.Common.{rules}
use Rattle.check_report.specs.RecordFindings.{record_words}
use Rattle.check_report.proofs.record_findings.Wants.words.Goals as goal

pub returns-in-BadCsv : goal.returns-in-BadCsv
unfolding record_words
returns-in-BadCsv c = rw c.in-BadCsv.is (rw c.len.ensures at c.width_words.ensures)

pub returns-in-NoSuchColumn : goal.returns-in-NoSuchColumn
unfolding record_words
returns-in-NoSuchColumn c = search rules

pub returns-in-NoSuchTopic : goal.returns-in-NoSuchTopic
unfolding record_words
returns-in-NoSuchTopic c = search rules

pub returns-in-KeyTooLong : goal.returns-in-KeyTooLong
unfolding record_words
returns-in-KeyTooLong c = search rules

pub returns-in_default : goal.returns-in_default
unfolding record_words
returns-in_default c = search rules
