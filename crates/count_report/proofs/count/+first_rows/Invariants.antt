use Rattle.count_report.proofs.count.+first_rows.Given as goal

abbrev pub decreases-first_rows : goal.decreases-first_rows
decreases-first_rows g l = l.count
