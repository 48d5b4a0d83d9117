use Rattle.std.proofs.Common.{[]}
use Rattle.place_report.proofs.partition_rows.partitions_text.Goals as goal

pub returns : goal.returns
returns g c = c.text_of.ensures _ (c.in_ok-write_partitions.ensures _ (c.in_ok-write_header.ensures [] c.new_writer-writer.ensures))
