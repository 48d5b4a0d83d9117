use Rattle.report_rows.specs.ReplayRows.{refused_row}
use Rattle.report_rows.proofs.replay_rows.write_refused.Goals as goal

pub returns : goal.returns
unfolding refused_row
returns c = rw (c.as_bytes.ensures.value, c.format.ensures.text, c.as_bytes-2.ensures.value, c.format-2.ensures.text, c.code.ensures) at c.write_row.ensures
