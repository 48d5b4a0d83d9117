use Rattle.csv_ingest.proofs.Marks.{marks}
use Rattle.csv_ingest.proofs.byte_search.marks_among.Goals as goal

pub returns : goal.returns
returns g c = marks g.row.N c.args.a c.args.b c.args.c c.args.text.now c.args.at c.requires.text c.requires.lanes
