use Rattle.std.proofs.Common.{[]}
use Rattle.place_report.proofs.key_rows.keys_text.Goals as goal

pub returns : goal.returns
returns c = c.text_of.ensures _ (c.in_ok-write_keys.ensures _ (c.in_ok-write_header.ensures [] c.new_writer-writer.ensures))
